-- The required files and programs that the checks of the host found.
use Rattle.std.specs.Prelude.{ℕ, ◌≡◌, ◌||◌, List}
use Rattle.std.specs.List.{list_any}
use Rattle.kt_plan.specs.Types.{Host, Need}
use Rattle.kt_metadata.specs.Requirements.{is_found}
use Rattle.kt_plan.specs.Planning.{finds}
use Rattle.kt_plan.specs.Reply.{Reply}

-- `RecordsFound calls old new`: `old` and `new` are properties of the host. `new` has all of
-- `old`, and also the files and programs that the calls `calls` found. The user, the memory and
-- the disk space are the same.
pub record RecordsFound (calls : List Reply) (old new : Host) : Type 0 where
  pub found : (need : Need) (word : List ℕ) → is_found need new word ≡ (is_found need old word || list_any (finds need word) calls)
  pub root : new.root ≡ old.root
  pub memory : new.memory ≡ old.memory
  pub disk : new.disk ≡ old.disk
