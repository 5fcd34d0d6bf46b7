use Rattle.std.proofs.Common.{◌≡◌, ◌++◌, map, take}
use Rattle.kt_child.proofs.Common.{variable_argument}
use Rattle.kt_child.proofs.planning.words.push_variable_args.Given as goal

abbrev pub invariant-loop-variable : goal.invariant-loop-variable
invariant-loop-variable l = l.words ≡ l.initial.words ++ map variable_argument (take l.variable-index l.variable-items)
