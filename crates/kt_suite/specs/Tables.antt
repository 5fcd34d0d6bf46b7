-- The declarations in the table of a call that registers a program.
use Rattle.std.specs.Prelude.{Bool, List, [], ◌∷◌, codes, Option, Some, None, Result, Ok, Err}
use Rattle.std.specs.List.{filter}
use Rattle.std.specs.Option.{option_or}
use Rattle.kt_suite.specs.Types.{BadValue, ProgramTable, SuiteCause, UnknownProperty, Variable}
use Rattle.kt_base.specs.LastValues.{value_of, last_values}
use Rattle.kt_script.specs.declared.syntax.Pair.{Pair}
use Rattle.kt_script.specs.LiteralText.{text_of}
use Rattle.kt_metadata.specs.declared.fault.PropFault.{PropFault}
use Rattle.kt_metadata.specs.Properties.{is_kyuafile_property, definition_fault}
use Rattle.kt_suite.specs.declared.table.KeyKind.{KeyKind}
use Rattle.kt_suite.specs.declared.table.KeyKind.TheVariants as key
use Rattle.kt_suite.specs.Calls.{key_named}

-- `definition pair`: the key of the pair `pair` of a table, with the pair's value as a text.
abbrev pub definition : Pair → Variable
definition pair = record { name = pair.name; value = text_of pair.value }

-- `definitions pairs`: the keys in the pairs `pairs` of a table, with their values as texts.
abbrev pub definitions : List Pair → List Variable
definitions [] = []
definitions (pair ∷ pairs) = definition pair ∷ definitions pairs

-- `is_property pair`: the key in the pair `pair` is a property that a Kyuafile may set.
abbrev pub is_property : Variable → Bool
is_property pair = is_kyuafile_property pair.name

-- `value_cause fault`: the cause `BadValue` if the error `fault` of setting a property is present,
-- otherwise `None`.
abbrev pub value_cause : Option PropFault → Option SuiteCause
value_cause None = None
value_cause (Some fault) = Some BadValue

-- `key_cause key pair`: the cause of the error in the pair `pair`, whose key is of the kind `key`.
-- It is `UnknownProperty` for an unknown key, `BadValue` for a bad value of a property, and
-- otherwise `None`.
abbrev pub key_cause : KeyKind → Variable → Option SuiteCause
key_cause key.Name pair = None
key_cause key.TestSuite pair = None
key_cause key.Property pair = value_cause (definition_fault pair.name pair.value)
key_cause key.Unknown pair = Some UnknownProperty

-- `pair_cause pair`: the cause of the error in the pair `pair`, if any: an unknown key, or a bad
-- value of a property.
abbrev pub pair_cause : Variable → Option SuiteCause
pair_cause pair = key_cause (key_named pair.name) pair

-- `first_invalid_pair_cause pairs`: the cause of the error in the first invalid pair of `pairs`, or
-- `None` if all pairs are valid.
abbrev pub first_invalid_pair_cause : List Variable → Option SuiteCause
first_invalid_pair_cause [] = None
first_invalid_pair_cause (pair ∷ pairs) = option_or (pair_cause pair) (first_invalid_pair_cause pairs)

-- `table_of pairs`: the table that the pairs `pairs` declare: the last name, the last test suite,
-- and the last value of each property.
abbrev pub table_of : List Variable → ProgramTable
table_of pairs = record {
  name = value_of (codes "name") pairs;
  suite = value_of (codes "test_suite") pairs;
  props = last_values (filter is_property pairs);
}

-- `cause_or_value cause value`: the error with the cause `cause` if it is present, otherwise the
-- value `value`.
abbrev pub cause_or_value : {T : Type 0} → Option SuiteCause → T → Result T SuiteCause
cause_or_value None there = Ok there
cause_or_value (Some cause) there = Err cause

-- `declared pairs`: the table that the pairs `pairs` declare, or the cause of the error in the
-- first invalid pair.
abbrev pub declared : List Pair → Result ProgramTable SuiteCause
declared pairs = cause_or_value (first_invalid_pair_cause (definitions pairs)) (table_of (definitions pairs))
