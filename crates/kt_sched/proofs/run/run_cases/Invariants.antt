use Rattle.kt_sched.proofs.Common.{changes_left}
use Rattle.kt_sched.proofs.Loop.{Loop}
use Rattle.kt_sched.proofs.run.run_cases.Given as goal

-- The scheduler, the launcher and the sink represent the same responses.
abbrev pub invariant-loop-i : goal.invariant-loop-i
invariant-loop-i g l = Loop g.L.Launcher g.S.Sink l.fn.plan l.fn.width l.fn.launcher l.fn.sink l.sched l.launcher l.sink l.totals l.fault

abbrev pub decreases-loop-i : goal.decreases-loop-i
decreases-loop-i g l = changes_left l.sched.cases
