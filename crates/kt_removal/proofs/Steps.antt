-- Facts that each removal step keeps.
use Rattle.std.proofs.Common.{◌∙◌, List, ℕ, sym, inl, inr}
use Rattle.kt_removal.specs.Common.{MayEmpty, KeepsQueue}
use Rattle.kt_removal.specs.declared.state.Removals.{Removals}

-- `KeepsQueue` is transitive.
pub stays_then : (a b c : Removals) → KeepsQueue a b → KeepsQueue b c → KeepsQueue a c
stays_then a b c first second =
    record {
      root = second.root ∙ first.root;
      queue_dir = second.queue_dir ∙ first.queue_dir;
      current_number = second.current_number ∙ first.current_number;
      moved = λ m. second.moved (first.moved m);
    }

-- A directory that may be emptied before a step may be emptied after it.
pub may_stays : (a b : Removals) (path : List ℕ) → KeepsQueue a b → MayEmpty a path → MayEmpty b path
may_stays a b path s (inl root) = inl (root ∙ sym s.root)
may_stays a b path s (inr (inl (name, is, number))) = inr (inl (name, rw s.root is, number))
may_stays a b path s (inr (inr (inl queue_dir))) = inr (inr (inl (queue_dir ∙ sym s.queue_dir)))
may_stays a b path s (inr (inr (inr (moved, is)))) = inr (inr (inr (s.moved moved, rw s.queue_dir (rw s.current_number is))))
