-- Test cases and their properties, from the blocks of a list.
use Rattle.std.specs.Prelude.{ℕ, Bool, not, List, [], ◌∷◌, ◌++◌, bytes_eq, None, is_some}
use Rattle.std.specs.List.{list_any}
use Rattle.kt_base.specs.LastValues.{is_named}
use Rattle.kt_base.specs.declared.variable.Variable.{Variable}
use Rattle.kt_metadata.specs.Properties.{definition_fault}
use Rattle.kt_atflist.specs.declared.listing.CaseDef.{CaseDef}

-- `has_case_name name case`: the name of the test case `case` is `name`.
abbrev pub has_case_name : List ℕ → CaseDef → Bool
has_case_name name case = bytes_eq name case.name

-- `is_listed cases name`: one of the test cases `cases` has the name `name`.
abbrev pub is_listed : List CaseDef → List ℕ → Bool
is_listed cases name = list_any (has_case_name name) cases

-- `has_property pairs name`: one of the properties `pairs` has the name `name`.
abbrev pub has_property : List Variable → List ℕ → Bool
has_property pairs name = list_any (is_named name) pairs

-- `empty_case name`: the test case with the name `name`, without properties and without a fault.
abbrev pub empty_case : List ℕ → CaseDef
empty_case name = record { name = name; props = []; fault = None }

-- `with_property block name value`: the test case `block` with the property `name` appended, whose
-- value is `value`.
abbrev pub with_property : CaseDef → List ℕ → List ℕ → CaseDef
with_property block name value = record { name = block.name; props = block.props ++ record { name = name; value = value } ∷ []; fault = block.fault }

-- `is_valid_property name value`: the property `name` exists and accepts the value `value`.
abbrev pub is_valid_property : List ℕ → List ℕ → Bool
is_valid_property name value = not (is_some (definition_fault name value))
