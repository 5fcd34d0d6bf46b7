-- The working directory and the environment variables of a process, as the system returns them.
use Rattle.std.specs.Prelude.{◌≡◌, ℕ, Bool, false, List, take, Option, Some, None, Result, Ok, Err, bytes_eq, chars, codes, ⊤}
use Rattle.std.specs.Str.{IsUtf8}
use Rattle.std.specs.declared.env.FillError.{FillError}
use Rattle.kt_os.specs.Types.{Error, OsFault, ProcessEnv}
use Rattle.kt_base.specs.declared.no_memory.NoMemory.{NoMemory as Shortage}
use Rattle.kt_os.specs.declared.system.OsFault.TheVariants.{Failed, Memory}

-- `IsWorkingDirectory answer result`: `result` is the path of the working directory in `answer`,
-- the result of the system's call. If `answer` has a directory, the only possible fault is a failed
-- allocation. If `answer` is an error, `result` is a fault.
abbrev pub IsWorkingDirectory : Result (List ℕ) Error → Result (List ℕ) OsFault → Type 0
IsWorkingDirectory (Ok answer) (Ok working_dir) = working_dir ≡ chars answer
IsWorkingDirectory (Ok answer) (Err (Memory refusal)) = ⊤
IsWorkingDirectory (Ok answer) (Err Failed) = ⊥
IsWorkingDirectory (Err error) (Ok working_dir) = ⊥
IsWorkingDirectory (Err error) (Err fault) = ⊤

-- `IsVariable answer room result`: `result` is the value of an environment variable. The system
-- wrote the value to the start of the buffer `room`, and `answer` has its length. `result` is
-- `None` if the value is not UTF-8, or if `answer` is an error. `result` may be a failed
-- allocation.
abbrev pub IsVariable : Result ℕ FillError → List ℕ → Result (Option (List ℕ)) Shortage → Type 0
IsVariable (Ok count) room (Ok (Some value)) = value ≡ chars (take count room)
IsVariable (Ok count) room (Ok None) = IsUtf8 (take count room) → ⊥
IsVariable (Err error) room (Ok value) = value ≡ None
IsVariable answer room (Err refusal) = ⊤

-- `IsVariableValue value`: `value` is the value of an environment variable. It follows from some
-- result of the system's call, and some content of the buffer to which the system wrote the value.
-- Nothing ties this result and this content to the call that the process made, since the library
-- has no relation for the environment.
abbrev pub IsVariableValue : Option (List ℕ) → Type 0
IsVariableValue value = (answer : Result ℕ FillError) × (room : List ℕ) × IsVariable answer room (Ok value)

-- `IsProcessEnv result`: `result` has the working directory, `PATH` and `USER` as the system
-- returned them, or is a fault. The fault is `Failed` only if the system's call for the working
-- directory failed. Nothing ties the results to the calls that the process made, since the library
-- has no relation for them.
abbrev pub IsProcessEnv : Result ProcessEnv OsFault → Type 0
IsProcessEnv (Ok around) = ((answer : Result (List ℕ) Error) × IsWorkingDirectory answer (Ok around.working_dir)) × IsVariableValue around.path × IsVariableValue around.user
IsProcessEnv (Err fault) = (answer : Result (List ℕ) Error) × IsWorkingDirectory answer (Err fault)

-- `is_root user`: `true` if `user`, the value of the variable `USER`, is `root`.
abbrev pub is_root : Option (List ℕ) → Bool
is_root None = false
is_root (Some user) = bytes_eq user (codes "root")
