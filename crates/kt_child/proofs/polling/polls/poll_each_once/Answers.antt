use Rattle.std.proofs.Common.{◌<◌, length, arith, refl, subst}
use Rattle.std.proofs.Math.ListN.{get_or}
use Rattle.kt_child.proofs.Common.{All-set, IsRunningChild, AreRunningCounts, RunningChild}
use Rattle.kt_child.proofs.TurnSteps.{on_at, same_at, step_more, step_over, step_set}
use Rattle.kt_child.proofs.polling.polls.poll_each_once.Goals as goal

pub returns-in-Ended-clause-over : goal.returns-in-Ended-clause-over
returns-in-Ended-clause-over g c =
    step_over c.args.children.now c.loop-i.children c.loop-i.i c.index-children-i.result (omega arith) c.loop-i.invariant.children
    g.O.Os.leads c.args.os.now c.loop-i.os c.poll_once.new.os c.child.result c.child.ensures
    c.in-Ended.outcome c.requires c.loop-i.invariant.asked c.in-Ended.ensures.asked

pub loop-i-preserved : goal.loop-i-preserved
loop-i-preserved g c =
    let init = c.args.children.now in
    let l = c.loop-i in
    let d = c.index-children-i.result in
    let e = c.index-children-i-in-StillRunning.result in
    let lt : l.i < length init = omega arith in
    record {
      asked =
          step_more init l.children l.i d lt l.invariant.children g.O.Os.leads c.args.os.now l.os c.poll_once.new.os c.child.result c.child.ensures
          l.invariant.asked c.in-StillRunning.ensures.asked;
      children = step_set init l.children l.i d lt l.invariant.children e c.poll_once.new.counts (c.in-StillRunning.ensures.watched refl).0;
      on =
          All-set IsRunningChild l.children l.i (record (get_or l.children l.i e) { counts = c.poll_once.new.counts }) (
            subst (λ (t : RunningChild). AreRunningCounts t.limit c.poll_once.new.counts) (same_at init l.children l.i d lt l.invariant.children e)
                (c.in-StillRunning.ensures.watched refl).1,
            (on_at init l.children l.i e lt l.invariant.children c.requires).1,
          )
          l.invariant.on;
    }
