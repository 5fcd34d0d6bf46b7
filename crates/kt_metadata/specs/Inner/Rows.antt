-- The table of properties in the code.
use Rattle.std.specs.Prelude.{ℕ, List, chars}
use Rattle.std.specs.Borrow.{Bor}
use Rattle.kt_metadata.specs.declared.form.Form.{Form}
use Rattle.kt_metadata.specs.Properties.{PropertyRow}

-- `row_in r`: the record `PropertyRow` with the name, key and form in `r`, a row of the property
-- table in the code.
abbrev pub row_in : Bor (List ℕ) × Bor (List ℕ) × Form → PropertyRow
row_in r = record { name = chars r.0.now; key = chars r.1.now; form = r.2 }
