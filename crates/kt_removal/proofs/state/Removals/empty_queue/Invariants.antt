use Rattle.std.proofs.Common.{◌≡◌}
use Rattle.kt_removal.proofs.state.Removals.empty_queue.Given as goal

abbrev pub invariant-loop : goal.invariant-loop
invariant-loop g l =
    record {
      root : l.self.root ≡ l.initial.self.root;
      queue_dir : l.self.queue_dir ≡ l.initial.self.queue_dir;
    }
