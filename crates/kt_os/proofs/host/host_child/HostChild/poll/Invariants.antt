use Rattle.std.proofs.Common.{◌≡◌}
use Rattle.kt_os.proofs.Common.{Proceeds, process_state}
use Rattle.kt_os.proofs.host.host_child.HostChild.poll.Given as goal

abbrev pub invariant-loop : goal.invariant-loop
invariant-loop g l =
    record {
      proceeds : Proceeds (process_state l.initial.self) (process_state l.self);
      pace : l.self.pace ≡ l.initial.self.pace;
    }
