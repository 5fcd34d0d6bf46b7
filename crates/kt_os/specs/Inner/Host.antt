-- Definitions for the private functions of the host.
use Rattle.std.specs.Prelude.{◌≡◌, ◌≢◌, Result, Ok, Err, ℕ, List, [], ◌∷◌, false, Option, Some, None, IsSome, map, ◌++◌, codes, if◌then◌else◌, ◌+◌, ◌≤◌, ◌<◌, IfSome, Bool, ◌*◌, ◌-◌, ◌/◌, max, min}
use Rattle.std.specs.declared.io.ErrorKind.{ErrorKind}
use Rattle.std.specs.declared.io.ErrorKind.TheVariants.{NotFound, OutOfMemory}
use Rattle.kt_os.specs.Types.{EnvPlan, FileRead, Missing, OsFault, Part, Variable}
use Rattle.kt_os.specs.declared.system.OsFault.TheVariants.{Failed, Memory}
use Rattle.std.specs.Fmt.{decimal}
use Rattle.std.specs.Str.{bytes_eq}
use Rattle.std.specs.Process.{clears_env, command_args, command_dir, command_program, command_var}
use Rattle.std.specs.declared.process.command.Command.{Command}
use Rattle.kt_base.specs.Utf8.{utf8}
use Rattle.kt_os.specs.Host.ProcessStates.{ProcessState}

-- `IsOpenFailure kind result`: `result` is the result of a read of a file that could not be opened.
-- The kind of the error was `kind`. The result is `Missing` if the kind is `NotFound`, and
-- otherwise an error.
abbrev pub IsOpenFailure : ErrorKind → Result FileRead OsFault → Type 0
IsOpenFailure kind (Err _) = kind ≢ NotFound
IsOpenFailure kind (Ok Missing) = kind ≡ NotFound
IsOpenFailure kind (Ok (Part bytes follows)) = ⊥

-- `IsFaultOf kind fault`: `fault` represents an I/O error of the kind `kind`. It is `Memory` if the
-- kind is `OutOfMemory`, and otherwise `Failed`.
abbrev pub IsFaultOf : ErrorKind → OsFault → Type 0
IsFaultOf kind Failed = kind ≢ OutOfMemory
IsFaultOf kind (Memory refusal) = kind ≡ OutOfMemory

-- `queue_path root`: the path of the queue directory in `root`, the driver's root directory.
-- Removals move other directories to the queue directory.
abbrev pub queue_path : List ℕ → List ℕ
queue_path root = root ++ codes "/kyua." ++ decimal 0

-- `setting_after_removals names name before`: the setting of the variable `name` in a command,
-- after the variables `names` were removed. `before` is the setting before the removals. A setting
-- is `None` if the command does not change the variable, `Some None` if the variable is removed,
-- and else its new value.
abbrev pub setting_after_removals : List (List ℕ) → List ℕ → Option (Option (List ℕ)) → Option (Option (List ℕ))
setting_after_removals [] name before = before
setting_after_removals (gone ∷ names) name before = setting_after_removals names name (if bytes_eq (utf8 gone) name then Some None else before)

-- `setting_after_sets variables name before`: the setting of the variable `name` in a command,
-- after `variables` were set. `before` is the setting before these changes. A setting is `None` if
-- the command does not change the variable, `Some None` if the variable is removed, and else its
-- new value. If a name occurs twice in `variables`, its last value counts.
abbrev pub setting_after_sets : List Variable → List ℕ → Option (Option (List ℕ)) → Option (Option (List ℕ))
setting_after_sets [] name before = before
setting_after_sets (v ∷ variables) name before = setting_after_sets variables name (if bytes_eq (utf8 v.name) name then Some (Some (utf8 v.value)) else before)

-- `IsCommandOf path words env work command`: `command` starts the program `path` with the arguments
-- `words` in the working directory `work`. Its environment is the runner's with the changes `env`.
pub record IsCommandOf {A : Type 0} (path : List ℕ) (words : List (List ℕ)) (env : EnvPlan) (work : List ℕ) (command : Command A) : Type 0 where
  pub program : command_program command ≡ utf8 path
  pub args : command_args command ≡ map utf8 words
  pub inherits : clears_env command ≡ false
  pub variables : (name : List ℕ) → command_var command name ≡ setting_after_sets env.set name (setting_after_removals env.removed name None)
  pub dir : command_dir command ≡ Some (utf8 work)

-- `SeeksTo from old new`: a seek to the byte `from` changes the position of a file from `old` to
-- `new`, which is `from`. If `old` is unknown (`None`) or `from` is 0, `new` is not specified.
abbrev pub SeeksTo : ℕ → Option ℕ → Option ℕ → Type 0
SeeksTo from old new = 0 < from → IfSome old (λ position. new ≡ Some from)

-- `IsEarly limit responses millis`: a `Running` response of a child is too early, `millis`
-- milliseconds after its start and after `responses` earlier responses. The timeout of `limit`
-- seconds allows 100 responses for each second. The first half of them may come at any speed, and
-- the others are spread over the timeout.
abbrev pub IsEarly : ℕ → ℕ → ℕ → Type 0
IsEarly limit responses millis = 1000 * limit + millis < 20 * (responses + 1)

-- `IsInFirstHalf limit responses`: after `responses` `Running` responses, the next response is in
-- the first half of those that a timeout of `limit` seconds allows. It allows 100 responses for
-- each second.
abbrev pub IsInFirstHalf : ℕ → ℕ → Type 0
IsInFirstHalf limit responses = responses + 1 ≤ 50 * limit

-- `check_interval_micros children since`: the interval at which `children` children are checked for
-- an end, in microseconds. `since` is the time since a child last ended, in microseconds. The
-- interval is the greatest of three times. With n children, counted up to 512, they are
-- `min (50 + since / 16) 350`, `14 * (n - 8)` and `since * (n + 4) / 384`.
abbrev pub check_interval_micros : ℕ → ℕ → ℕ
check_interval_micros children since =
    max (max (min (50 + since / 16) 350) (14 * (min children 512 - 8))) (since * (min children 512 + 4) / 384)

-- `next_slice children pauses micros`: the length of the next slice of a pause for `children`
-- children, in microseconds. `micros` microseconds of the pause have passed, and `pauses` pauses
-- since a child last ended. The length is the greater of two times: `check_interval_micros` for at
-- most eight children, and 3 microseconds for each child after the eighth, counted up to 512
-- children. It is cut to the rest of the pause of 10,000 microseconds.
abbrev pub next_slice : ℕ → ℕ → ℕ → ℕ
next_slice children pauses micros =
    min (max (check_interval_micros (min children 8) (10000 * pauses + micros)) (3 * (min children 512 - 8))) (10000 - micros)

-- `MayBeRunning late state`: a child in the state `state` may be reported as running. It has a
-- process, whose end may be known only if `late` is true. `late` is true if some child is polled
-- late.
abbrev pub MayBeRunning : Bool → ProcessState → Type 0
MayBeRunning late state = IsSome state × (late ≡ false → state ≡ Some None)
