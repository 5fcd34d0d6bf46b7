use Rattle.std.proofs.Common.{◌≡◌, ◌++◌, map, length}
use Rattle.kt_config.proofs.Common.{variable_in}
use Rattle.kt_config.proofs.suite_variables.SuiteVariables.copy.Given as goal

-- the copied variables, followed by those of the remaining entries, are the variables of all
-- entries
abbrev pub invariant-loop-name : goal.invariant-loop-name
invariant-loop-name l = l.variables ++ map variable_in l.rest ≡ l.self

abbrev pub decreases-loop-name : goal.decreases-loop-name
decreases-loop-name l = length l.rest
