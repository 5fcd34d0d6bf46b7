use Rattle.kt_plan.proofs.plan.planning.plan_job.Goals as goal

pub returns : goal.returns
returns c = c.build_job.ensures c.args.config.now c.args.host.now c.requires c.in_ok-meta.ensures.value c.in_ok-decided.ensures
