use Rattle.std.proofs.Common.{rules}
use Rattle.kt_sched.proofs.Common.{sym, ◌∙◌, subst, arith, RepresentsRun}
use Rattle.kt_sched.proofs.Transitions.{is_cleanup, start_active, start_at, start_fits, started}
use Rattle.kt_sched.proofs.sched.Sched.record_start.Goals as goal

pub returns : goal.returns
returns c =
    started c.self.view_is c.self.invariant c.args.i c.args.role c.args.answer c.stage_after_start.result c.requires c.index_mut-case.ensures.value c.replace-was.ensures.value
    (c.stage_after_start.ensures c.args.i) c.turn_after_start-self-inside.ensures (c.eq.ensures ∙ is_cleanup c.args.role) c.active_after_event-self-inside.ensures
    c.pending_and_ready_cases.ensures.owing c.pending_and_ready_cases.ensures.ready

pub invariant_of-self : goal.invariant_of-self
invariant_of-self c =
    let v = c.self.invariant in (v.0, v.1, _, (returns c).stands v.0 v.1 v.2 (subst (RepresentsRun v.0 v.1 v.2) c.self.view_is v.3))

pub index_mut-case-requires : goal.index_mut-case-requires
index_mut-case-requires c = search (rules, start_at c.self.view_is c.self.invariant c.args.i c.args.role c.requires)

pub stage_after_start-requires : goal.stage_after_start-requires
stage_after_start-requires c = (start_fits c.self.view_is c.self.invariant c.args.i c.args.role c.requires c.index_mut-case.ensures.value c.replace-was.ensures.value).can

pub turn_after_start-self-inside-requires : goal.turn_after_start-self-inside-requires
turn_after_start-self-inside-requires c = λ r.
    omega (arith, c.len.ensures, (start_fits c.self.view_is c.self.invariant c.args.i c.args.role c.requires c.index_mut-case.ensures.value c.replace-was.ensures.value).turn r)

pub active_after_event-self-inside-requires-clause-less : goal.active_after_event-self-inside-requires-clause-less
active_after_event-self-inside-requires-clause-less c = λ e.
    start_active c.self.view_is c.self.invariant c.args.i c.args.role c.requires c.index_mut-case.ensures.value (sym (c.eq.ensures ∙ is_cleanup c.args.role) ∙ e)
