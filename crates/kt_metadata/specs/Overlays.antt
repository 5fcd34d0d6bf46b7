-- Pairs of names and values.
use Rattle.std.specs.Prelude.{ℕ, List}
use Rattle.kt_base.specs.declared.variable.Variable.{Variable}

-- `name_with_value name value`: the pair of the name `name` and the value `value`, such as a
-- variable or a property.
abbrev pub name_with_value : List ℕ → List ℕ → Variable
name_with_value name value = record { name = name; value = value }
