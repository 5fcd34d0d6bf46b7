use Rattle.std.proofs.Common.{◌≡◌}
use Rattle.indexmap.specs.IndexMap.{index_map_len}
use Rattle.kt_os.proofs.Common.{AllProceed, process_state_in}
use Rattle.kt_os.proofs.host.children.detect_new_end.Given as goal

abbrev pub invariant-loop-place : goal.invariant-loop-place
invariant-loop-place g l =
    record {
      proceed : AllProceed (process_state_in l.initial.children.entries) (process_state_in l.children.entries);
      many : index_map_len l.children ≡ index_map_len l.initial.children;
    }
