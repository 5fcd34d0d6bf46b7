use Rattle.kt_sched.proofs.Common.{drop, positions_where, ◌++◌, ◌≡◌}
use Rattle.kt_sched.proofs.setup.push_positions.Given as goal

-- The positions of the first jobs are added.
abbrev pub invariant-loop-job : goal.invariant-loop-job
invariant-loop-job l = l.fn.order.items ++ positions_where l.fn.exclusive l.fn.plan ≡ l.order.items ++ positions_where l.fn.exclusive (drop l.job-index l.fn.plan)
