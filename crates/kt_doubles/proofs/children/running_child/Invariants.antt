use Rattle.std.proofs.Common.{◌≡◌, ◌<◌, ℕ, None}
use Rattle.kt_doubles.proofs.Common.{Role, running_child_at}
use Rattle.kt_doubles.proofs.children.running_child.Given as goal

-- No child runs at a position below `k`.
abbrev pub invariant-loop-k : goal.invariant-loop-k
invariant-loop-k l = (i : ℕ) (r : Role) → i < l.k → running_child_at l.slots i r ≡ None
