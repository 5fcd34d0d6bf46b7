-- The values of a configuration.
use Rattle.std.specs.Prelude.{ℕ, ◌≡◌, List, [], ◌∷◌, map, chars, Option, Some, None, bytes_eq, if◌then◌else◌}
use Rattle.std.specs.String.{string_bytes}
use Rattle.std.specs.declared.string.String.{String}
use Rattle.kt_base.specs.declared.variable.Variable.{Variable}
use Rattle.kt_base.specs.LastValues.{last_values}

-- `SuiteValues`: a test suite in a configuration: its name and its variables.
pub record SuiteValues : Type 0 where
  pub suite : List ℕ
  pub variables : List Variable

-- `Values`: the values of a configuration: those of the runner's variables, and the suites that
-- have variables. The architecture or the platform is absent if it is not defined.
pub record Values : Type 0 where
  pub architecture : Option (List ℕ)
  pub platform : Option (List ℕ)
  pub parallelism : ℕ
  pub suites : List SuiteValues

-- `variables_of suite groups`: the variables of the test suite `suite` in the list of suites
-- `groups`, or nothing if the suite is not in that list.
abbrev pub variables_of : List ℕ → List SuiteValues → Option (List Variable)
variables_of suite [] = None
variables_of suite (group ∷ groups) = if bytes_eq suite group.suite then Some group.variables else variables_of suite groups

-- `variable_in entry`: the variable that the map entry `entry` represents: the key is the
-- variable's name, and the value is the variable's value.
abbrev pub variable_in : {Z : Type 0} → String Z × List ℕ → Variable
variable_in entry = record { name = chars (string_bytes entry.0); value = entry.1 }

-- `variables_in entries`: the variables that the map entries `entries` represent, in their order.
abbrev pub variables_in : {Z : Type 0} → List (String Z × List ℕ) → List Variable
variables_in entries = map variable_in entries

-- `HasUniqueNames variables`: each name occurs at most once in `variables`, so that `last_values`
-- does not change the list.
abbrev pub HasUniqueNames : List Variable → Type 0
HasUniqueNames variables = variables ≡ last_values variables
