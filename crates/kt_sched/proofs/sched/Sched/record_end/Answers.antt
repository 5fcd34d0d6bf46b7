use Rattle.kt_sched.proofs.Common.{subst, RepresentsRun}
use Rattle.kt_sched.proofs.Transitions.{ended}
use Rattle.kt_sched.proofs.sched.Sched.record_end.Goals as goal

pub returns : goal.returns
returns c =
    ended c.self.view_is c.self.invariant c.args.ended c.stage_after_end.result c.requires.asked c.requires.runs c.index_mut-case.ensures.value c.replace-was.ensures.value
    c.stage_after_end.ensures c.active_after_event-self-inside.ensures c.pending_and_ready_cases.ensures.owing c.pending_and_ready_cases.ensures.ready

pub invariant_of-self : goal.invariant_of-self
invariant_of-self c =
    let v = c.self.invariant in (v.0, v.1, _, (returns c).stands v.0 v.1 v.2 (subst (RepresentsRun v.0 v.1 v.2) c.self.view_is v.3))
