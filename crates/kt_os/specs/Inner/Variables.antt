-- The length limit for environment variables.
use Rattle.std.specs.Prelude.{ℕ}

-- `longest_variable`: the maximum length of an environment variable, in bytes. Linux rejects a
-- longer one (`MAX_ARG_STRLEN`).
abbrev pub longest_variable : ℕ
longest_variable = 131072
