-- Output that stops after a failed write.
use Rattle.std.specs.Prelude.{ℕ, Bool, true, false, List, ◌≡◌, Option}
use Rattle.kt_cli.specs.Types.{Emits}

-- `WritesMore old before new failed bytes`: from content `old` to content `new` of a writer,
-- `bytes` were written, or a proper prefix if the write failed. If an earlier write failed
-- (`before`), nothing was written. `failed` is whether this or an earlier write failed.
abbrev pub WritesMore : Option (List ℕ) → Bool → Option (List ℕ) → Bool → List ℕ → Type 0
WritesMore old false new failed bytes = Emits old new failed bytes
WritesMore old true new failed bytes = (new ≡ old) × (failed ≡ true)

-- `WritesNext old before new failed bytes`: from content `old` to content `new` of a writer,
-- `bytes` were written, or a proper prefix if the write failed. If an earlier write failed
-- (`before`), nothing was written. `failed` is whether this or an earlier write failed. This is
-- `WritesMore` as a record.
pub record WritesNext (old : Option (List ℕ)) (before : Bool) (new : Option (List ℕ)) (failed : Bool) (bytes : List ℕ) : Type 0 where
  pub more : WritesMore old before new failed bytes
