use Rattle.std.proofs.Common.{drop}
use Rattle.kt_plan.proofs.Common.{needs_of_cases}
use Rattle.kt_plan.proofs.LookLaws.{Looking}
use Rattle.kt_plan.proofs.plan.looking.probe_all_needs.Given as goal

abbrev pub invariant-loop-candidate : goal.invariant-loop-candidate
invariant-loop-candidate g l = Looking g.W.World.replies (needs_of_cases l.cases) l.fn.world l.fn.host (needs_of_cases (drop l.candidate-index l.cases)) l.world l.host
