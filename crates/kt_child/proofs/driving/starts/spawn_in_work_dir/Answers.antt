use Rattle.kt_child.proofs.Common.{spawn_calls, work_dir_call}
use Rattle.kt_child.proofs.Chains.{tries_failed, tries_more}
use Rattle.kt_child.proofs.driving.starts.spawn_in_work_dir.Goals as goal

pub returns-in-Err : goal.returns-in-Err
returns-in-Err g c =
    tries_failed g.O.Os.leads _ _ (work_dir_call c.args.plan.now) (spawn_calls c.args.plan.now) c.in-Err.fault _ c.in-Err.ensures c.refusal_cause.ensures

pub returns : goal.returns
returns g c = tries_more g.O.Os.leads _ _ _ (work_dir_call c.args.plan.now) (spawn_calls c.args.plan.now) _ c.in_default.ensures c.open_and_spawn.ensures
