-- The paths that a removal may touch.
use Rattle.std.specs.Prelude.{◌≡◌, ◌<◌, ◌==◌, ◌-◌, ◌^◌, ◌⊎◌, ◌++◌, ◌∷◌, ◌&&◌, ℕ, Bool, not, List, [], false, true, bytes_eq, codes, length, min}
use Rattle.std.specs.List.{list_all, list_any}
use Rattle.std.specs.Fmt.{decimal}
use Rattle.kt_base.specs.Digits.{is_digit}
use Rattle.kt_base.specs.Utf8.{utf8}
use Rattle.kt_removal.specs.declared.state.Removals.{Removals}

-- `queued_dir queue_dir number`: the path of the directory with the number `number` in the queue
-- directory `queue_dir`.
abbrev pub queued_dir : List ℕ → ℕ → List ℕ
queued_dir queue_dir number = queue_dir ++ codes "/" ++ decimal number

-- `IsNumber name`: `name` consists of one or more decimal digits.
abbrev pub IsNumber : List ℕ → Type 0
IsNumber name = (0 < length name) × (list_all is_digit name ≡ true)

-- `IsCaseDirectory root path`: `path` has the form of a case's directory: an entry of `root` whose
-- name is a number.
abbrev pub IsCaseDirectory : List ℕ → List ℕ → Type 0
IsCaseDirectory root path = (name : List ℕ) × (utf8 path ≡ utf8 root ++ 47 ∷ name) × IsNumber name

-- `HasNextDirectory r`: the queue `r` has a next directory. Its number `r.current_number` is less
-- than `r.next_number`, and the move to this number did not fail.
abbrev pub HasNextDirectory : Removals → Type 0
HasNextDirectory r = (r.current_number < r.next_number) × (list_any (λ n. n == r.current_number) r.gaps.items ≡ false)

-- `IsRemovable r path`: `path` is a case's directory, the queue directory or the next directory of
-- the queue `r`.
abbrev pub IsRemovable : Removals → List ℕ → Type 0
IsRemovable r path = IsCaseDirectory r.root path ⊎ (path ≡ r.queue_dir) ⊎ (HasNextDirectory r × (path ≡ queued_dir r.queue_dir r.current_number))

-- `MayEmpty r path`: a step of the queue `r` may remove the entries of `path`. `path` is the root,
-- a case's directory, the queue directory or the next directory of the queue.
abbrev pub MayEmpty : Removals → List ℕ → Type 0
MayEmpty r path = (path ≡ r.root) ⊎ IsRemovable r path

-- `is_entry_name name`: `name` can be the name of a directory's entry: not empty, without a slash,
-- and neither `.` nor `..`.
abbrev pub is_entry_name : List ℕ → Bool
is_entry_name name = not (bytes_eq name []) && not (bytes_eq name (codes ".")) && not (bytes_eq name (codes "..")) && not (list_any (λ c. c == 47) name)

-- `IsEntryOf directory path`: `path` is the path of an entry of `directory`.
abbrev pub IsEntryOf : List ℕ → List ℕ → Type 0
IsEntryOf directory path = (name : List ℕ) × (path ≡ utf8 directory ++ 47 ∷ name) × (is_entry_name name ≡ true)

-- `MayRemove r path`: a step of the queue `r` may remove or move `path`. `path` is an entry of a
-- directory that the step may empty (`MayEmpty`), or that directory itself if it isn't the root.
abbrev pub MayRemove : Removals → List ℕ → Type 0
MayRemove r path = (directory : List ℕ) × ((IsRemovable r directory × (path ≡ utf8 directory)) ⊎ (MayEmpty r directory × IsEntryOf directory path))

-- `KeepsQueue old new`: a step changes the queue from `old` to `new`. The root, the queue directory
-- and the number of the next directory stay the same. If `old` has a next directory, `new` has one,
-- too.
pub record KeepsQueue (old new : Removals) : Type 0 where
  pub root : new.root ≡ old.root
  pub queue_dir : new.queue_dir ≡ old.queue_dir
  pub current_number : new.current_number ≡ old.current_number
  pub moved : HasNextDirectory old → HasNextDirectory new

-- `waiting next_number current_number`: the number of directories in the queue, at most 2^32 - 1.
-- `next_number` is the number that the next moved directory gets, and `current_number` is the
-- number of the directory that is emptied next. A number that was skipped after a failed move
-- counts, too.
abbrev pub waiting : ℕ → ℕ → ℕ
waiting next_number current_number = min (next_number - current_number) (2 ^ 32 - 1)
