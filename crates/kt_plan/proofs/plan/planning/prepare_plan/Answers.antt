use Rattle.kt_plan.proofs.Common.{err_from_is_err_and}
use Rattle.kt_plan.proofs.Chains.{asked_short}
use Rattle.kt_plan.proofs.LookLaws.{all_surveyed}
use Rattle.kt_plan.proofs.plan.planning.prepare_plan.Goals as goal

pub returns-in_err-plan-clause-planned : goal.returns-in_err-plan-clause-planned
returns-in_err-plan-clause-planned g c =
    let p = err_from_is_err_and c.from_residual-in_err-plan.result c.from_residual-in_err-plan.ensures.1 in
    let a = rw (c.as_slice.ensures) at c.in_ok-host.ensures.surveyed in
    asked_short g.W.World.replies c.args.world.now c.probe_host.new.world _ _ c.from_residual-in_err-plan.result p.0 p.1
    (record { asked = a.asked; chain = a.chain; holds = all_surveyed c.args.cases a.asked c.in_ok-host.host a.holds })
