-- The parts of the configuration that requirements depend on.
use Rattle.std.specs.Prelude.{ℕ, Bool, not, codes, List, is_some, unwrap_or, option_and_then}
use Rattle.kt_base.specs.LastValues.{value_of}
use Rattle.kt_config.specs.Values.{Values, variables_of}

-- `is_undefined config suite name`: the test suite `suite` has no variable `name` in the
-- configuration with the values `config`.
abbrev pub is_undefined : Values → List ℕ → List ℕ → Bool
is_undefined config suite name =
    not (is_some (option_and_then (value_of name) (variables_of suite config.suites)))

-- `architecture_of config`: the architecture in the configuration `config`, or `unknown` if the
-- configuration doesn't define it.
abbrev pub architecture_of : Values → List ℕ
architecture_of config = unwrap_or config.architecture (codes "unknown")

-- `platform_of config`: the platform in the configuration `config`, or `unknown` if the
-- configuration doesn't define it.
abbrev pub platform_of : Values → List ℕ
platform_of config = unwrap_or config.platform (codes "unknown")
