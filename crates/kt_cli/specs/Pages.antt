-- The output and the exit status of a command that stops printing after a failed write.
use Rattle.std.specs.Prelude.{ℕ, Bool, List, ◌≡◌, Option, if◌then◌else◌}
use Rattle.kt_cli.specs.Types.{Emits}

-- `Printed old new exit bytes intended_exit`: from content `old` to content `new` of a writer,
-- `bytes` were written, and the exit status `exit` is `intended_exit`. If a write failed, only a
-- proper prefix of `bytes` was written, and `exit` is 2.
pub record Printed (old new : Option (List ℕ)) (exit : ℕ) (bytes : List ℕ) (intended_exit : ℕ) : Type 0 where
  pub failed : Bool
  pub shows : Emits old new failed bytes
  pub exits : exit ≡ (if failed then 2 else intended_exit)
