use Rattle.std.proofs.Common.{drop}
use Rattle.kt_plan.proofs.Common.{IsIdle}
use Rattle.kt_plan.proofs.OfferLaws.{Offering}
use Rattle.kt_plan.proofs.cases.offering.list_all_cases.Given as goal

abbrev pub invariant-loop-program : goal.invariant-loop-program
invariant-loop-program g l = record {
  offering : Offering g.W.World.replies l.settings.config l.settings.filters l.programs l.fn.world (drop l.program-index l.programs) l.world l.found;
  idle : IsIdle (g.W.Launcher.running l.world) (g.W.Launcher.pending l.world);
}
