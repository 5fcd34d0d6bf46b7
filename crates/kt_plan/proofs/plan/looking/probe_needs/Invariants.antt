use Rattle.std.proofs.Common.{drop}
use Rattle.kt_plan.proofs.Common.{needs_of_kind}
use Rattle.kt_plan.proofs.LookLaws.{Looking}
use Rattle.kt_plan.proofs.plan.looking.probe_needs.Given as goal

abbrev pub invariant-loop-word : goal.invariant-loop-word
invariant-loop-word g l = Looking g.W.World.replies (needs_of_kind l.need l.words) l.fn.world l.fn.host (needs_of_kind l.need (drop l.word-index l.words)) l.world l.host
