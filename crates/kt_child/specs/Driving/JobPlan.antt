-- Purposes of children, and the values for their starts.
use Rattle.std.specs.Prelude.{ℕ, List, [], ◌++◌, codes, if◌then◌else◌, false}
use Rattle.kt_child.specs.Types.{Atf, Body, CaseAttempt, Cleanup, Job, Paths, Role, SpawnPlan, Variable, Want}
use Rattle.kt_base.specs.Texts.{is_empty}
use Rattle.kt_suite.specs.Paths.{parent_of}
use Rattle.kt_child.specs.declared.planning.Want.TheVariants.{List as Listing, Body as BodyOf, Cleanup as CleanupOf}
use Rattle.kt_child.specs.Planning.ChildPlan.{child_of, env_of, paths_of, args_of}
use Rattle.kt_child.specs.Ending.Ends.{stderr_path, stdout_path}

-- `program_path source program`: the absolute path of `program`, a path relative to `source`.
-- `source` is the absolute path of the root Kyuafile's directory.
abbrev pub program_path : List ℕ → List ℕ → List ℕ
program_path source program = source ++ codes "/" ++ program

-- `program_directory path`: the parent directory of the absolute path `path`. It is `/` for a path
-- such as `/a`.
abbrev pub program_directory : List ℕ → List ℕ
program_directory path = if is_empty (parent_of path) then codes "/" else parent_of path

-- `child_timeout_seconds job role`: the timeout of the child of `job` in `role`, in seconds. It is
-- 60 for a cleanup.
abbrev pub child_timeout_seconds : Job → Role → ℕ
child_timeout_seconds job Body = job.timeout
child_timeout_seconds job Cleanup = 60

-- `ChildPurpose`: the purpose for which a child is started, with its program, variables, case name
-- and timeout in seconds.
pub record ChildPurpose : Type 0 where
  pub want : Want
  pub program : List ℕ
  pub variables : List Variable
  pub case_name : List ℕ
  pub limit : ℕ

-- `want_of role`: the purpose for which a child in `role` is started.
abbrev pub want_of : Role → Want
want_of Body = BodyOf
want_of Cleanup = CleanupOf

-- `job_purpose job role`: the purpose of `job`'s child in `role`.
abbrev pub job_purpose : Job → Role → ChildPurpose
job_purpose job role =
    record { want = want_of role; program = job.program; variables = job.vars; case_name = job.case_name; limit = child_timeout_seconds job role }

-- `list_purpose program variables`: the purpose of a child that lists the cases of `program`, with
-- the suite's `variables` and a timeout of 300 seconds.
abbrev pub list_purpose : List ℕ → List Variable → ChildPurpose
list_purpose program variables = record { want = Listing; program = program; variables = variables; case_name = []; limit = 300 }

-- `spawn_plan_for source p c`: the `SpawnPlan` of a child with the purpose `p` for the case `c`.
-- `source` is the absolute path of the root Kyuafile's directory.
abbrev pub spawn_plan_for : List ℕ → ChildPurpose → CaseAttempt → SpawnPlan
spawn_plan_for source p c =
    record {
      child = child_of c;
      limit = p.limit;
      program = program_path source p.program;
      words = args_of c.interface p.want c.paths.result (program_directory (program_path source p.program)) p.variables p.case_name;
      env = env_of c.interface p.variables c.paths.work;
      dir = c.paths.dir;
      work = c.paths.work;
      out = stdout_path c.role c.paths;
      err = stderr_path c.role c.paths;
    }

-- `job_spawn_plan source job c`: the `SpawnPlan` of a child of `job` for the case `c`, which has
-- the role of the child. `source` is the absolute path of the root Kyuafile's directory.
abbrev pub job_spawn_plan : List ℕ → Job → CaseAttempt → SpawnPlan
job_spawn_plan source job c = spawn_plan_for source (job_purpose job c.role) c

-- `list_case root number`: the `CaseAttempt` of a program that lists its test cases. It has the
-- attempt number `number` and paths below `root`, the root directory of the driver.
abbrev pub list_case : List ℕ → ℕ → CaseAttempt
list_case root number = record { position = 0; attempt = number; role = Body; interface = Atf; cleanup = false; paths = paths_of root number }

-- `case_of job role number paths`: the `CaseAttempt` of a child of `job` in `role`. `number` and
-- `paths` are the number and the paths of the attempt, which a cleanup shares with its body.
abbrev pub case_of : Job → Role → ℕ → Paths → CaseAttempt
case_of job role number paths =
    record { position = job.position; attempt = number; role = role; interface = job.interface; cleanup = job.cleanup; paths = paths }
