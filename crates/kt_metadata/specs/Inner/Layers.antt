-- Layers of properties in the code.
use Rattle.std.specs.Prelude.{◌≡◌, ℕ, List, [], ◌∷◌, map, chars, Option, Some, None}
use Rattle.std.specs.Rc.{rc_value}
use Rattle.std.specs.String.{string_bytes}
use Rattle.std.specs.declared.rc.Rc.{Rc}
use Rattle.std.specs.declared.string.String.{String}
use Rattle.kt_base.specs.declared.variable.Variable.{Variable}
use Rattle.kt_base.specs.LastValues.{last_values}
use Rattle.kt_metadata.specs.declared.value.PropertyDefinition.{PropertyDefinition}
use Rattle.kt_metadata.specs.Properties.{value_of_text}

-- `pair_in entry`: the name of the property in `entry`, with the text of its definition. `entry` is
-- an element of a layer's map: the name of a property, with its definition.
abbrev pub pair_in : {Z : Type 0} → String Z × PropertyDefinition → Variable
pair_in entry = record { name = chars (string_bytes entry.0); value = entry.1.text }

-- `pairs_in entries`: the names of the properties in `entries`, each with the text of its
-- definition, in order. `entries` are the elements of a layer's map: names of properties, with
-- their definitions.
abbrev pub pairs_in : {Z : Type 0} → List (String Z × PropertyDefinition) → List Variable
pairs_in entries = map pair_in entries

-- `HasParsedValue name it`: the definition `it` of the property `name` has the value that its text
-- represents.
abbrev pub HasParsedValue : List ℕ → PropertyDefinition → Type 0
HasParsedValue name it = value_of_text name it.text ≡ Some it.value

-- `HaveParsedValues entries`: each definition in `entries` has the value that its text represents.
-- `entries` are the elements of a layer's map: names of properties, with their definitions.
abbrev pub HaveParsedValues : {Z : Type 0} → List (String Z × PropertyDefinition) → Type 0
HaveParsedValues [] = Unit {0}
HaveParsedValues (entry ∷ entries) = HasParsedValue (chars (string_bytes entry.0)) entry.1 × HaveParsedValues entries

-- `AreConsistent entries`: each name occurs at most once in `entries`, and each definition has the
-- value that its text represents. `entries` are the elements of a layer's map: names of properties,
-- with their definitions.
pub record AreConsistent {Z : Type 0} (entries : List (String Z × PropertyDefinition)) : Type 0 where
  pub settled : pairs_in entries ≡ last_values (pairs_in entries)
  pub read : HaveParsedValues entries

-- `program_layer program`: the names and texts of the properties in the shared layer `program`, or
-- an empty list if it is absent.
abbrev pub program_layer : {Z : Type 0} → Option (Rc (List Variable) Z) → List Variable
program_layer None = []
program_layer (Some layer) = rc_value layer
