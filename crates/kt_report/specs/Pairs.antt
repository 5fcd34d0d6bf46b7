-- The lines of the properties that a case declares.
use Rattle.std.specs.Prelude.{ℕ, Bool, true, false, List, ◌++◌, codes, flat_map, map, nat_lt, if◌then◌else◌}
use Rattle.kt_base.specs.declared.entry.Entry.{Entry}
use Rattle.kt_base.specs.declared.variable.Variable.{Variable}
use Rattle.kt_base.specs.Utf8.{utf8}
use Rattle.kt_report.specs.Lines.{line_bytes}

-- `printable_byte byte`: the byte that is printed for `byte` in the value of a property: a question
-- mark (63) for a byte below 32, otherwise `byte` itself.
abbrev pub printable_byte : ℕ → ℕ
printable_byte byte = if nat_lt byte 32 then 63 else byte

-- `property_bytes pair`: the line of the property `pair`: its name and its printable value.
abbrev pub property_bytes : Variable → List ℕ
property_bytes pair = codes "    " ++ utf8 pair.name ++ codes " = " ++ map printable_byte (utf8 pair.value) ++ codes "\n"

-- `entry_bytes verbose e`: the line of the entry `e`, followed by the lines of its properties if
-- `verbose` is true.
abbrev pub entry_bytes : Bool → Entry → List ℕ
entry_bytes false e = line_bytes e
entry_bytes true e = line_bytes e ++ flat_map property_bytes e.meta

-- `with_properties e pairs`: the entry `e` with the properties `pairs`.
abbrev pub with_properties : Entry → List Variable → Entry
with_properties e pairs = record e { meta = pairs }
