-- The values of a configuration, by its definitions.
use Rattle.std.specs.Prelude.{ℕ, ◌≡◌, List, [], ◌∷◌, ◌++◌, Option, Some, None, unwrap_or, bytes_eq, if◌then◌else◌}
use Rattle.std.specs.Option.{option_or}
use Rattle.kt_base.specs.declared.variable.Variable.{Variable}
use Rattle.kt_base.specs.LastValues.{last_values}
use Rattle.kt_config.specs.declared.meaning.Definition.{Definition}
use Rattle.kt_config.specs.declared.meaning.Definition.TheVariants.{Architecture, Platform, Parallelism, UnprivilegedUser, SuiteVariable}
use Rattle.kt_config.specs.Values.{Values, variables_of}

-- `architecture_in definition`: the architecture that `definition` sets, or nothing if it sets
-- another variable.
abbrev pub architecture_in : Definition → Option (List ℕ)
architecture_in (Architecture value) = Some value
architecture_in (Platform value) = None
architecture_in (Parallelism width) = None
architecture_in UnprivilegedUser = None
architecture_in (SuiteVariable suite variable) = None

-- `platform_in definition`: the platform that `definition` sets, or nothing if it sets another
-- variable.
abbrev pub platform_in : Definition → Option (List ℕ)
platform_in (Architecture value) = None
platform_in (Platform value) = Some value
platform_in (Parallelism width) = None
platform_in UnprivilegedUser = None
platform_in (SuiteVariable suite variable) = None

-- `parallelism_in definition`: the width that `definition` sets, or nothing if it sets another
-- variable.
abbrev pub parallelism_in : Definition → Option ℕ
parallelism_in (Architecture value) = None
parallelism_in (Platform value) = None
parallelism_in (Parallelism width) = Some width
parallelism_in UnprivilegedUser = None
parallelism_in (SuiteVariable suite variable) = None

-- `variable_for suite definition`: a list with the variable that `definition` sets in the test
-- suite `suite`. It is empty if `definition` sets no variable of this suite.
abbrev pub variable_for : List ℕ → Definition → List Variable
variable_for suite (Architecture value) = []
variable_for suite (Platform value) = []
variable_for suite (Parallelism width) = []
variable_for suite UnprivilegedUser = []
variable_for suite (SuiteVariable owner variable) = if bytes_eq suite owner then variable ∷ [] else []

-- `last_value_by given definitions`: the last of the values that the function `given` returns for
-- the definitions `definitions`, in their order. Nothing if `given` returns a value for none of
-- them.
abbrev pub last_value_by : {A : Type 0} → (Definition → Option A) → List Definition → Option A
last_value_by given [] = None
last_value_by given (definition ∷ definitions) = option_or (last_value_by given definitions) (given definition)

-- `variables_set_for suite definitions`: the variables that `definitions` set in the test suite
-- `suite`, in the order of the definitions.
abbrev pub variables_set_for : List ℕ → List Definition → List Variable
variables_set_for suite [] = []
variables_set_for suite (definition ∷ definitions) = variable_for suite definition ++ variables_set_for suite definitions

-- `non_empty_list variables`: the list `variables`, or nothing if it is empty.
abbrev pub non_empty_list : List Variable → Option (List Variable)
non_empty_list [] = None
non_empty_list (variable ∷ variables) = Some (variable ∷ variables)

-- `HasValuesSetBy config definitions`: the values `config` are those that `definitions` set: each
-- variable has its last value. `parallelism` is 1 if it is not set. Each variable of a suite occurs
-- once. A suite's variables are in the order of their first definitions.
pub record HasValuesSetBy (config : Values) (definitions : List Definition) : Type 0 where
  pub architecture : config.architecture ≡ last_value_by architecture_in definitions
  pub platform : config.platform ≡ last_value_by platform_in definitions
  pub parallelism : config.parallelism ≡ unwrap_or (last_value_by parallelism_in definitions) 1
  pub suites : (suite : List ℕ) → variables_of suite config.suites ≡ non_empty_list (last_values (variables_set_for suite definitions))

-- `Adds definition old new`: the definition `definition` changes the values `old` of a
-- configuration to `new`. For each list of definitions that sets `old`, the list with `definition`
-- appended sets `new`.
abbrev pub Adds : Definition → Values → Values → Type 0
Adds definition old new = (before : List Definition) → HasValuesSetBy old before → HasValuesSetBy new (before ++ definition ∷ [])
