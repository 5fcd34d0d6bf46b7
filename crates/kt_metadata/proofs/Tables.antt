-- Searches of the code's table.
use Rattle.std.proofs.Common.{◌≡◌, ℕ, List, ◌++◌, refl, sym, ap, ◌∙◌, Option, Some, None, false, Bor, codes, option_and_then}
use Rattle.kt_metadata.proofs.Common.{chars, find, option_map, option_or, row_in, has_key, name_of_key, PropertyRow, table, has_name, is_custom, form_of_property, non_empty_suffix, value_fault, value_in}
use Rattle.kt_metadata.specs.declared.form.Form.{Form}
use Rattle.kt_metadata.specs.declared.value.Value.{Value}

-- `Kept`: a row of the code's table: the name, the key and the form.
abbrev pub Kept : Type 0
Kept = Bor (List ℕ) × Bor (List ℕ) × Form

form-in : (found : Option Kept) → option_map (λ (r : PropertyRow). r.form) (option_map row_in found) ≡ option_map (λ (r : Kept). r.2) found
form-in None = refl
form-in (Some r) = refl

name-in : (found : Option Kept) → option_map (λ (r : PropertyRow). r.name) (option_map row_in found) ≡ option_map (λ (r : Kept). chars r.0.now) found
name-in None = refl
name-in (Some r) = refl

-- The form of a property with a fixed name is the form in the row `found` with that name.
pub form-found : (name : List ℕ) (found : Option Kept) → is_custom name ≡ false → option_map row_in found ≡ find (has_name name) table → form_of_property name ≡ option_map (λ (r : Kept). r.2) found
form-found name found other e = rw other (ap (option_map (λ (r : PropertyRow). r.form)) (sym e) ∙ form-in found)

-- The name for a key is the name in the row `found` with that key, or a custom name without a row.
pub key-found : (key : List ℕ) (found : Option Kept) → option_map row_in found ≡ find (has_key key) table
    → name_of_key key ≡ option_or (option_map (λ (r : Kept). chars r.0.now) found) (option_map (λ part. codes "custom." ++ part) (non_empty_suffix (codes "X-") key))
key-found key found e =
    ap (λ (o : Option (List ℕ)). option_or o (option_map (λ part. codes "custom." ++ part) (non_empty_suffix (codes "X-") key))) (ap (option_map (λ (r : PropertyRow). r.name)) (sym e) ∙ name-in found)

-- If the form `found` accepts `text`, setting the property to `text` has no error.
pub accepted : (found : Option Form) (text : List ℕ) (v : Value) → option_and_then (λ f. value_in f text) found ≡ Some v → value_fault found text ≡ None
accepted None text v e = absurd (cc)
accepted (Some f) text v e = rw e refl
