use Rattle.std.proofs.Common.{drop}
use Rattle.kt_plan.proofs.Common.{candidate_meta, needs_of_kinds}
use Rattle.kt_plan.proofs.LookLaws.{Looking}
use Rattle.kt_plan.proofs.plan.looking.probe_case_needs.Given as goal

abbrev pub invariant-loop-need : goal.invariant-loop-need
invariant-loop-need g l = Looking g.W.World.replies (needs_of_kinds l.need-items (candidate_meta l.candidate)) l.fn.world l.fn.host (needs_of_kinds (drop l.need-index l.need-items) (candidate_meta l.candidate)) l.world l.host
