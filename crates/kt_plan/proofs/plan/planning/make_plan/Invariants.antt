use Rattle.std.proofs.Common.{◌≡◌}
use Rattle.kt_plan.proofs.Common.{variables_for}
use Rattle.kt_plan.proofs.PlanLaws.{Jobs}
use Rattle.kt_plan.proofs.plan.planning.make_plan.Given as goal

-- The jobs so far are planned, and the shared variables are the variables of the last suite.
abbrev pub invariant-loop-candidate : goal.invariant-loop-candidate
invariant-loop-candidate l = Jobs l.config l.host l.fn.cases l.position l.candidate-iterator.rest.items l.plan × (l.shared.variables ≡ variables_for l.config l.shared.suite)
