use Rattle.kt_sched.proofs.Common.{sym, ◌∙◌, ap, subst, Result, err_from_is_err_and, Totals, counted, RunsPlan}
use Rattle.kt_sched.specs.declared.run_fault.RunFault.{RunFault}
use Rattle.kt_sched.proofs.Loop.{loop_can_count, loop_end, loop_failed, loop_first, loop_may_start, loop_may_wait, loop_put, loop_runs, loop_start, loop_storable}
use Rattle.kt_sched.proofs.Exits.{ran_not, ran_short, ran_well}
use Rattle.kt_sched.proofs.run.run_cases.Goals as goal
use Rattle.kt_sched.proofs.run.run_cases.Goals.{in-None, in-Some}

pub loop-i-init : goal.loop-i-init
loop-i-init g c =
    let e = c.in_ok-sched.ensures in
    loop_first g.L.Launcher g.S.Sink c.args.plan c.args.width c.args.launcher.now c.args.sink.now _ _ e.stands e.asked c.requires.idle
    c.new-totals.ensures

pub returns-in_err-sched-clause-ran : goal.returns-in_err-sched-clause-ran
returns-in_err-sched-clause-ran g c =
    let p = err_from_is_err_and c.from_residual.result c.from_residual.ensures.1 in
    rw (p.1, p.2) (ran_not g.L.Launcher g.S.Sink c.args.plan c.args.width c.args.launcher.now c.args.sink.now c.requires.plan _)

pub start-answer-requires-clause-may : goal.start-answer-requires-clause-may
start-answer-requires-clause-may g c =
    let e = c.in-Start.ensures in
    loop_may_start c.requires.plan c.loop-i.invariant c.in-Start.i c.in-Start.role e.next e.follows _ e.stands c.job.result.now c.job.ensures _ (cc)

pub loop-i-preserved-in-Start : goal.loop-i-preserved-in-Start
loop-i-preserved-in-Start g c =
    let e = c.in-Start.ensures in
    let s = c.start-answer.ensures in
    loop_start c.requires.plan c.loop-i.invariant c.in-Start.i c.in-Start.role e.next e.follows _ e.stands c.job.result.now c.job.ensures
    c.start-answer.result c.start-answer.new.self _ s.leads s.moment s.running s.pending c.record_start.ensures

pub wait-ended-requires : goal.wait-ended-requires
wait-ended-requires g c = loop_may_wait c.requires.plan c.loop-i.invariant c.in-Wait.ensures.follows

pub record_end-requires-clause-runs : goal.record_end-requires-clause-runs
record_end-requires-clause-runs g c =
    loop_runs c.requires.plan c.loop-i.invariant c.wait-ended.result c.wait-ended.ensures.one_that_ran _ c.in-Wait.ensures.stands

pub loop-i-preserved-in-Wait : goal.loop-i-preserved-in-Wait
loop-i-preserved-in-Wait g c =
    let e = c.in-Wait.ensures in
    let w = c.wait-ended.ensures in
    loop_end c.requires.plan c.loop-i.invariant c.wait-ended.result w.one_that_ran _ e.stands c.wait-ended.new.self _ e.next w.leads
    w.moment w.running w.pending c.record_end.ensures

pub count_entry-more-requires : goal.count_entry-more-requires
count_entry-more-requires g c = loop_can_count c.requires.plan c.loop-i.invariant c.in-Put.i c.in-Put.ensures.next c.in_ok-sched.ensures.room

pub put-requires : goal.put-requires
put-requires g c =
    let e = c.in-Put.ensures in
    loop_storable c.requires.plan c.loop-i.invariant c.in-Put.i e.next _ e.stands c.take-entry.result c.take-entry.ensures.entry

pub loop-i-preserved-in-Ok : goal.loop-i-preserved-in-Ok
loop-i-preserved-in-Ok g c =
    let e = c.in-Put.ensures in
    let y = c.take-entry.ensures in
    let f = c.record_put.ensures in
    loop_put c.requires.plan c.loop-i.invariant c.in-Put.i e.next _ e.stands c.take-entry.result y.entry _ _ y.stands f.asked c.put.new.self
    _ (c.count_entry-more.ensures ∙ ap (counted c.loop-i.totals) c.kind.ensures) c.in-Ok.ensures.leads c.in-Ok.ensures.ok f.stands

pub loop-i-preserved : goal.loop-i-preserved
loop-i-preserved g c =
    let e = c.in-Put.ensures in
    let y = c.take-entry.ensures in
    let f = c.record_put-in-Err.ensures in
    loop_failed c.requires.plan c.loop-i.invariant c.in-Put.i e.next _ e.stands c.take-entry.result y.entry _ _ y.stands f.asked c.put.new.self
    c.in-Err.cause c.in-Err.ensures.leads c.in-Err.ensures.err f.stands

pub returns-in-Done-clause-ran : goal.returns-in-Done-clause-ran
returns-in-Done-clause-ran g c =
    let e = c.in-Done.ensures in
    let T = λ (r : Result Totals RunFault). RunsPlan g.L.Launcher g.S.Sink c.args.plan c.args.width c.args.launcher.now c.loop-i.launcher c.args.sink.now
    c.loop-i.sink r in
    elim c.match-fault.branch [
      | in-None w ↦ subst T (sym w.result-is) (ran_well c.requires.plan c.loop-i.invariant e.next e.follows w.in-None.is)
      | in-Some w ↦ subst T (sym w.result-is) (ran_short c.requires.plan c.loop-i.invariant e.next e.follows w.in-Some.cause w.in-Some.is)
    ]
