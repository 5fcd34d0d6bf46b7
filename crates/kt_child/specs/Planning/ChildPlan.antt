-- Paths, environment and arguments of a child.
use Rattle.std.specs.Prelude.{ℕ, List, [], ◌∷◌, ◌++◌, map, codes}
use Rattle.std.specs.Fmt.{decimal}
use Rattle.kt_child.specs.Types.{Atf, CaseAttempt, Child, EnvPlan, Interface, Paths, Variable, Want}
use Rattle.kt_child.specs.declared.planning.Want.TheVariants.{List as Listing, Body, Cleanup}

-- `child_of c`: the name (attempt and role) of the current child of the case `c`.
abbrev pub child_of : CaseAttempt → Child
child_of c = record { attempt = c.attempt; role = c.role }

-- `attempt_dir root number`: the directory of the attempt `number` below `root`, the root directory
-- of the driver.
abbrev pub attempt_dir : List ℕ → ℕ → List ℕ
attempt_dir root number = root ++ codes "/" ++ decimal number

-- `attempt_path root number name`: the path of `name` in the directory of the attempt `number`
-- below `root`, the root directory of the driver.
abbrev pub attempt_path : List ℕ → ℕ → List ℕ → List ℕ
attempt_path root number name = attempt_dir root number ++ codes "/" ++ name

-- `paths_of root number`: the paths of the attempt `number` below `root`, the root directory of the
-- driver.
abbrev pub paths_of : List ℕ → ℕ → Paths
paths_of root number =
    record {
      dir = attempt_dir root number;
      work = attempt_path root number (codes "work");
      result = attempt_path root number (codes "result");
      out = attempt_path root number (codes "out");
      err = attempt_path root number (codes "err");
      cleanup_out = attempt_path root number (codes "cleanup.out");
      cleanup_err = attempt_path root number (codes "cleanup.err");
    }

-- `variable_argument v`: the argument `-vNAME=VALUE`, which passes the variable `v` to an ATF
-- program.
abbrev pub variable_argument : Variable → List ℕ
variable_argument v = codes "-v" ++ v.name ++ codes "=" ++ v.value

-- `args_of interface want result source variables case_name`: the arguments of a program that is
-- started for the purpose `want` and has the interface `interface`. `result` is the path of the
-- result file, and `source` the absolute path of the program's directory. `variables` are the
-- variables of its suite, and `case_name` is the name of the case. TAP and plain programs get no
-- arguments.
abbrev pub args_of : Interface → Want → List ℕ → List ℕ → List Variable → List ℕ → List (List ℕ)
args_of Atf Listing result source variables case_name = map variable_argument variables ++ codes "-l" ∷ []
args_of Atf Body result source variables case_name =
    ((codes "-r" ++ result) ∷ (codes "-s" ++ source) ∷ []) ++ map variable_argument variables ++ case_name ∷ []
args_of Atf Cleanup result source variables case_name =
    ((codes "-s" ++ source) ∷ []) ++ map variable_argument variables ++ (case_name ++ codes ":cleanup") ∷ []
args_of interface want result source variables case_name = []

-- `variable name value`: the variable `name` with the value `value`.
abbrev pub variable : List ℕ → List ℕ → Variable
variable name value = record { name = name; value = value }

-- `locale_names`: the names of the locale variables, which are removed from each child's
-- environment.
abbrev pub locale_names : List (List ℕ)
locale_names =
    codes "LANG" ∷ codes "LC_ALL" ∷ codes "LC_COLLATE" ∷ codes "LC_CTYPE" ∷ codes "LC_MESSAGES" ∷ codes "LC_MONETARY"
    ∷ codes "LC_NUMERIC" ∷ codes "LC_TIME" ∷ []

-- `test_variable v`: `v`, a variable of a suite, in the form that TAP and plain programs get: the
-- name has the prefix `TEST_ENV_`.
abbrev pub test_variable : Variable → Variable
test_variable v = variable (codes "TEST_ENV_" ++ v.name) v.value

-- `common_variables work`: the environment variables that every child gets. `work` is the child's
-- work directory.
abbrev pub common_variables : List ℕ → List Variable
common_variables work = variable (codes "TZ") (codes "UTC") ∷ variable (codes "HOME") work ∷ variable (codes "TMPDIR") work ∷ []

-- `interface_variables interface variables`: the environment variables that depend on `interface`,
-- the interface of a program. `variables` are the variables of the program's suite.
abbrev pub interface_variables : Interface → List Variable → List Variable
interface_variables Atf variables = variable (codes "__RUNNING_INSIDE_ATF_RUN") (codes "internal-yes-value") ∷ []
interface_variables interface variables = map test_variable variables

-- `env_of interface variables work`: the changes that turn the runner's environment into a child's.
-- `interface` is the interface of the child's program, and `variables` are the variables of its
-- suite. `work` is the work directory of the child.
abbrev pub env_of : Interface → List Variable → List ℕ → EnvPlan
env_of interface variables work =
    record { removed = locale_names; set = common_variables work ++ interface_variables interface variables }
