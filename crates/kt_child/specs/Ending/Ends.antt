-- The calls after the last poll of a child.
use Rattle.std.specs.Prelude.{◌≡◌, ◌≤◌, ℕ, Bool, true, false, ◌&&◌, List, [], ◌∷◌, ◌++◌, length, Result, if◌then◌else◌}
use Rattle.kt_child.specs.Types.{Body, CaseAttempt, Cleanup, Ended, FileRead, OsFault, Outcome, Paths, Role}
use Rattle.kt_sched.specs.Children.{is_same_role}
use Rattle.kt_os.specs.System.Calls.{Call, Now, ReadFile, RemoveTree}
use Rattle.kt_os.specs.System.Moments.{moment_of}
use Rattle.kt_child.specs.Ending.Reads.{bytes_of}
use Rattle.kt_child.specs.Ending.Gathering.{ReadsEvidence}

-- `stdout_path role paths`: the file among `paths` for the standard output of a child in `role`.
abbrev pub stdout_path : Role → Paths → List ℕ
stdout_path Body paths = paths.out
stdout_path Cleanup paths = paths.cleanup_out

-- `stderr_path role paths`: the file among `paths` for the standard error of a child in `role`.
abbrev pub stderr_path : Role → Paths → List ℕ
stderr_path Body paths = paths.err
stderr_path Cleanup paths = paths.cleanup_err

-- `is_last_child c`: no cleanup follows after the current child of the case `c` has ended.
abbrev pub is_last_child : CaseAttempt → Bool
is_last_child c = if is_same_role c.role Body && c.cleanup then false else true

-- `Removes removed dir calls`: `calls` remove the directory `dir` if `removed` is `true`. Otherwise
-- there are no calls.
abbrev pub Removes : Bool → List ℕ → List Call → Type 0
Removes true dir calls = (done : Bool) × (calls ≡ RemoveTree dir done ∷ [])
Removes false dir calls = calls ≡ []

-- `FinishesChild c calls outcome e`: `e` is the end of a child of `c` with `outcome`. `calls` read
-- the clock, the evidence, standard output and standard error, in that order, and `e` has the
-- results. They then remove the directory if no cleanup follows. At most 1,048,576 bytes of each
-- output are read.
abbrev pub FinishesChild : CaseAttempt → List Call → Outcome → Ended → Type 0
FinishesChild c calls outcome e =
    (now : Result ℕ OsFault) × (reads : List Call) × (out : Result FileRead OsFault) × (err : Result FileRead OsFault) × (last : List Call)
    × (calls ≡ Now now ∷ (reads ++ ReadFile (stdout_path c.role c.paths) 1048576 out ∷ ReadFile (stderr_path c.role c.paths) 1048576 err ∷ last))
    × ReadsEvidence c.interface c.role c.paths reads e.evidence × Removes (is_last_child c) c.paths.dir last
    × (e.position ≡ c.position) × (e.role ≡ c.role) × (e.outcome ≡ outcome)
    × (e.output.out ≡ bytes_of out) × (e.output.err ≡ bytes_of err) × (e.moment ≡ moment_of now)
    × (length e.output.out ≤ 1048576) × (length e.output.err ≤ 1048576)
