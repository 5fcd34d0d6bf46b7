use Rattle.std.proofs.Common.{ℕ, ◌<◌, IsSomeAnd, slice_get}
use Rattle.std.specs.Map.{values_of}
use Rattle.kt_os.specs.Common.{IsLateAt}
use Rattle.kt_os.proofs.host.children.has_late_child.Given as goal

abbrev pub invariant-loop-place : goal.invariant-loop-place
invariant-loop-place g l = (i : ℕ) → i < l.place → IsSomeAnd (slice_get (values_of l.children.entries) i) (IsLateAt l.now) → ⊥
