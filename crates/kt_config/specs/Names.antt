-- The variables by name, and the definitions of their values.
use Rattle.std.specs.Prelude.{ℕ, Bool, true, false, not, ◌==◌, ◌&&◌, List, [], ◌∷◌, Option, Some, None, Result, Ok, Err, bytes_eq, codes, if◌then◌else◌}
use Rattle.std.specs.List.{slice_split}
use Rattle.kt_config.specs.declared.meaning.Definition.{Definition}
use Rattle.kt_config.specs.declared.meaning.Definition.TheVariants.{Architecture, Platform, Parallelism, UnprivilegedUser, SuiteVariable}
use Rattle.kt_config.specs.declared.fault.ConfigFault.{ConfigFault}
use Rattle.kt_config.specs.declared.fault.ConfigFault.TheVariants.{UnknownVariable, BadValue}
use Rattle.kt_config.specs.Forms.{has_zero_byte, is_variable_name, width_of}
use Rattle.kt_base.specs.Texts.{is_empty}

-- `DefinitionResult`: the result of reading a definition in a configuration: the definition or its
-- fault.
abbrev pub DefinitionResult : Type 0
DefinitionResult = Result Definition ConfigFault

-- `non_empty_definition empty definition`: the definition `definition`, or the fault `BadValue` if
-- `empty` is true. `empty` is true if the value of `definition` is empty.
abbrev pub non_empty_definition : Bool → Definition → DefinitionResult
non_empty_definition true definition = Err BadValue
non_empty_definition false definition = Ok definition

-- `width_definition width`: the definition that sets `parallelism` to `width`, or the fault
-- `BadValue` if `width` is absent.
abbrev pub width_definition : Option ℕ → DefinitionResult
width_definition None = Err BadValue
width_definition (Some width) = Ok (Parallelism width)

-- `runner_definition name value`: the definition that sets the runner's variable `name` to `value`,
-- or the fault of the name or the value.
abbrev pub runner_definition : List ℕ → List ℕ → DefinitionResult
runner_definition name value =
    if bytes_eq name (codes "architecture") then non_empty_definition (is_empty value) (Architecture value)
    else if bytes_eq name (codes "platform") then non_empty_definition (is_empty value) (Platform value)
    else if bytes_eq name (codes "unprivileged_user") then non_empty_definition (is_empty value) UnprivilegedUser
    else if bytes_eq name (codes "parallelism") then width_definition (width_of value)
    else Err UnknownVariable

-- `is_suite_variable root suite name`: `root`, `suite` and `name` are the parts of the name of a
-- suite's variable, `test_suites.SUITE.NAME`.
abbrev pub is_suite_variable : List ℕ → List ℕ → List ℕ → Bool
is_suite_variable root suite name = bytes_eq root (codes "test_suites") && not (is_empty suite) && is_variable_name name

-- `suite_definition root suite name value`: the definition that sets the variable `name` of the
-- test suite `suite` to `value`, or a fault. The fault is `UnknownVariable` if `root`, `suite` and
-- `name` are not the parts of a suite variable's name. It is `BadValue` if `value` contains a zero
-- byte.
abbrev pub suite_definition : List ℕ → List ℕ → List ℕ → List ℕ → DefinitionResult
suite_definition root suite name value =
    if is_suite_variable root suite name
    then if has_zero_byte value then Err BadValue else Ok (SuiteVariable suite (record { name = name; value = value }))
    else Err UnknownVariable

-- `definition_of parts value`: the definition that sets the variable with the name parts `parts` to
-- `value`, or the fault of the name or the value.
abbrev pub definition_of : List (List ℕ) → List ℕ → DefinitionResult
definition_of [] value = Err UnknownVariable
definition_of (name ∷ []) value = runner_definition name value
definition_of (root ∷ suite ∷ []) value = Err UnknownVariable
definition_of (root ∷ suite ∷ name ∷ []) value = suite_definition root suite name value
definition_of (root ∷ suite ∷ name ∷ more ∷ rest) value = Err UnknownVariable

-- `name_parts name`: the parts of the variable's name `name`, which dots separate.
abbrev pub name_parts : List ℕ → List (List ℕ)
name_parts name = slice_split (λ c. c == 46) name

-- `definition_named name value`: the definition that sets the variable `name` to `value`, or the
-- fault of the name or the value. Dots separate the parts of `name`.
abbrev pub definition_named : List ℕ → List ℕ → DefinitionResult
definition_named name value = definition_of (name_parts name) value
