use Rattle.std.proofs.Common.{◌-◌}
use Rattle.kt_os.proofs.Common.{AllProceed, process_state_in}
use Rattle.kt_os.proofs.host.children.await_end.Given as goal

abbrev pub invariant-loop-rested : goal.invariant-loop-rested
invariant-loop-rested g l = AllProceed (process_state_in l.initial.children.entries) (process_state_in l.children.entries)

abbrev pub decreases-loop-rested : goal.decreases-loop-rested
decreases-loop-rested g l = 10000 - l.rested
