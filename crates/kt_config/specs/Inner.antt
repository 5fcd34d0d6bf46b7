-- Definitions that only private functions cite.
use Rattle.std.specs.Prelude.{ℕ, ◌≡◌, false, List, [], ◌∷◌, ◌++◌, chars, Some, unwrap_or, bytes_eq, Result, Ok, Err}
use Rattle.std.specs.String.{string_bytes}
use Rattle.std.specs.declared.string.String.{String}
use Rattle.kt_base.specs.declared.variable.Variable.{Variable}
use Rattle.kt_base.specs.LastValues.{last_values}
use Rattle.kt_script.specs.declared.fault.ScriptFault.{ScriptFault}
use Rattle.kt_script.specs.declared.fault.ScriptFault.TheVariants as script
use Rattle.kt_config.specs.declared.fault.ConfigFault.{ConfigFault}
use Rattle.kt_config.specs.declared.fault.ConfigFault.TheVariants.{NoMemory, Script}
use Rattle.kt_config.specs.Values.{SuiteValues, Values, variables_of}
use Rattle.kt_config.specs.Holding.{HasValuesSetBy}
use Rattle.kt_config.specs.Reading.{DefinitionsOrFault}

-- `SetsSuiteVariable suite variable old new`: the list of suites `new` is the list `old` with the
-- variable `variable` set in the suite `suite`. The variables of other suites are unchanged.
pub record SetsSuiteVariable (suite : List ℕ) (variable : Variable) (old new : List SuiteValues) : Type 0 where
  pub own : variables_of suite new ≡ Some (last_values (unwrap_or (variables_of suite old) [] ++ variable ∷ []))
  pub others : (other : List ℕ) → bytes_eq other suite ≡ false → variables_of other new ≡ variables_of other old

-- `IsResultOfDefinitions result outcome`: `result` is the result of reading a configuration file
-- whose definitions or first fault are `outcome`. Either both are the same fault, or `result` has
-- the values that the definitions in `outcome` set.
abbrev pub IsResultOfDefinitions : Result Values ConfigFault → DefinitionsOrFault → Type 0
IsResultOfDefinitions (Ok config) (Ok definitions) = HasValuesSetBy config definitions
IsResultOfDefinitions (Ok config) (Err fault) = ⊥
IsResultOfDefinitions (Err found) (Ok definitions) = ⊥
IsResultOfDefinitions (Err found) (Err fault) = found ≡ fault

-- `fault_of_script fault`: the configuration error for `fault`, the parser's error for a
-- configuration file. A failed allocation remains `NoMemory`.
abbrev pub fault_of_script : ScriptFault → ConfigFault
fault_of_script (script.NoMemory refusal) = NoMemory refusal
fault_of_script script.NotUtf8 = Script script.NotUtf8
fault_of_script (script.BadToken line) = Script (script.BadToken line)
fault_of_script (script.NotLiteral line) = Script (script.NotLiteral line)
fault_of_script (script.Unclosed line) = Script (script.Unclosed line)
fault_of_script script.TooLong = Script script.TooLong

-- `suite_in entry`: the suite that the map entry `entry` represents: the key is the name of the
-- suite, and the value is the list of its variables.
abbrev pub suite_in : {Z : Type 0} → String Z × List Variable → SuiteValues
suite_in entry = record { suite = chars (string_bytes entry.0); variables = entry.1 }
