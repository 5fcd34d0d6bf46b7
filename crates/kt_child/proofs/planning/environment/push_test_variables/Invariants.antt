use Rattle.std.proofs.Common.{◌≡◌, ◌++◌, map, take}
use Rattle.kt_child.proofs.Common.{test_variable}
use Rattle.kt_child.proofs.planning.environment.push_test_variables.Given as goal

abbrev pub invariant-loop-variable : goal.invariant-loop-variable
invariant-loop-variable l = l.set ≡ l.initial.set ++ map test_variable (take l.variable-index l.variable-items)
