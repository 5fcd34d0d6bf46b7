-- Lookups and insertions in a layer.
use Rattle.std.proofs.Common.{◌≡◌, ℕ, Bool, true, false, List, [], ◌∷◌, ◌++◌, refl, sym, ap, ◌∙◌, subst, Option, Some, None, append_assoc, option_and_then}
use Rattle.kt_metadata.proofs.Common.{chars, option_map, option_or, IsUtf8, string_bytes, string_eq, String, IsUtf8-string_bytes, Variable, value_of, last_values, overlaid, value_is, same, value_of-append, put, first_value, first-settled, put-settled, settled-put, twice, PropertyDefinition, pair_in, pairs_in, HasParsedValue, HaveParsedValues, AreConsistent, name_with_value, value_of_text}
use Rattle.std.specs.Str.{bytes_eq}
use Rattle.std.specs.Map.{lookup}
use Rattle.indexmap.specs.IndexMap.{insert_entry}
use Rattle.kt_base.proofs.Texts.{key-chars}

module _ {Z : Type 0} where
  -- Inserting an entry into the map sets its pair, and each value is still parsed from its text.
  inserted-next : (k : String Z) (v : PropertyDefinition) (e : String Z × PropertyDefinition) (es : List (String Z × PropertyDefinition)) → HasParsedValue (chars (string_bytes k)) v → HaveParsedValues (e ∷ es)
      → (pairs_in (insert_entry string_eq es k v) ≡ put (pairs_in es) (pair_in (k, v))) × HaveParsedValues (insert_entry string_eq es k v)
      → (b : Bool) → string_eq k e.0 ≡ b → bytes_eq (chars (string_bytes k)) (chars (string_bytes e.0)) ≡ b
      → (pairs_in (insert_entry string_eq (e ∷ es) k v) ≡ put (pairs_in (e ∷ es)) (pair_in (k, v))) × HaveParsedValues (insert_entry string_eq (e ∷ es) k v)
  inserted-next k v e es is all h true t n =
      rw (t, n) (refl, (subst (λ (name : List ℕ). HasParsedValue name v) (same (chars (string_bytes k)) (chars (string_bytes e.0)) n) is, all.1))
  inserted-next k v e es is all h false t n = rw (t, n) (ap (λ (ps : List Variable). pair_in e ∷ ps) h.0, (all.0, h.1))

  inserted : (k : String Z) (v : PropertyDefinition) (es : List (String Z × PropertyDefinition)) → HasParsedValue (chars (string_bytes k)) v → HaveParsedValues es
      → (pairs_in (insert_entry string_eq es k v) ≡ put (pairs_in es) (pair_in (k, v))) × HaveParsedValues (insert_entry string_eq es k v)
  inserted k v [] is all = (refl, (is, tt))
  inserted k v (e ∷ es) is all =
      inserted-next k v e es is all (inserted k v es is all.1) (string_eq k e.0) refl (sym (key-chars (string_bytes k) (IsUtf8-string_bytes k) e.0))

  pub still-sound : (k : String Z) (v : PropertyDefinition) (es new : List (String Z × PropertyDefinition)) → HasParsedValue (chars (string_bytes k)) v → AreConsistent es → new ≡ insert_entry string_eq es k v → AreConsistent new
  still-sound k v es new is s e =
      let i = inserted k v es is s.read in
      subst AreConsistent (sym e) (record { settled = settled-put (pairs_in es) (pairs_in (insert_entry string_eq es k v)) (pair_in (k, v)) s.settled i.0; read = i.1 })

  pub inserted-last : (k : String Z) (v : PropertyDefinition) (es new : List (String Z × PropertyDefinition)) → HasParsedValue (chars (string_bytes k)) v → AreConsistent es → new ≡ insert_entry string_eq es k v
      → pairs_in new ≡ last_values (pairs_in es ++ pair_in (k, v) ∷ [])
  inserted-last k v es new is s e = ap pairs_in e ∙ put-settled (pairs_in es) (pairs_in (insert_entry string_eq es k v)) (pair_in (k, v)) s.settled (inserted k v es is s.read).0

  -- Looking up a name in the map returns the first entry with the name.
  found-next : (q : List ℕ) (e : String Z × PropertyDefinition) (es : List (String Z × PropertyDefinition)) → HaveParsedValues (e ∷ es)
      → (option_map (λ it. it.text) (lookup (λ k. bytes_eq q (string_bytes k)) es) ≡ first_value (chars q) (pairs_in es))
      × (option_map (λ it. it.value) (lookup (λ k. bytes_eq q (string_bytes k)) es) ≡ option_and_then (value_of_text (chars q)) (first_value (chars q) (pairs_in es)))
      → (b : Bool) → bytes_eq q (string_bytes e.0) ≡ b → bytes_eq (chars q) (chars (string_bytes e.0)) ≡ b
      → (option_map (λ it. it.text) (lookup (λ k. bytes_eq q (string_bytes k)) (e ∷ es)) ≡ first_value (chars q) (pairs_in (e ∷ es)))
      × (option_map (λ it. it.value) (lookup (λ k. bytes_eq q (string_bytes k)) (e ∷ es)) ≡ option_and_then (value_of_text (chars q)) (first_value (chars q) (pairs_in (e ∷ es))))
  found-next q e es all h true t n =
      rw (t, n) (refl, sym (subst (λ (name : List ℕ). HasParsedValue name e.1) (sym (same (chars q) (chars (string_bytes e.0)) n)) all.0))
  found-next q e es all h false t n = rw (t, n) h

  found : (q : List ℕ) → IsUtf8 q → (es : List (String Z × PropertyDefinition)) → HaveParsedValues es
      → (option_map (λ it. it.text) (lookup (λ k. bytes_eq q (string_bytes k)) es) ≡ first_value (chars q) (pairs_in es))
      × (option_map (λ it. it.value) (lookup (λ k. bytes_eq q (string_bytes k)) es) ≡ option_and_then (value_of_text (chars q)) (first_value (chars q) (pairs_in es)))
  found q u [] all = (refl, refl)
  found q u (e ∷ es) all = found-next q e es all (found q u es all.1) (bytes_eq q (string_bytes e.0)) refl (sym (key-chars q u e.0))

  pub text-found : (q : List ℕ) → IsUtf8 q → (es : List (String Z × PropertyDefinition)) → AreConsistent es
      → option_map (λ it. it.text) (lookup (λ k. bytes_eq q (string_bytes k)) es) ≡ value_of (chars q) (pairs_in es)
  text-found q u es s = (found q u es s.read).0 ∙ first-settled (chars q) (pairs_in es) s.settled

  pub value-found : (q : List ℕ) → IsUtf8 q → (es : List (String Z × PropertyDefinition)) → AreConsistent es
      → option_map (λ it. it.value) (lookup (λ k. bytes_eq q (string_bytes k)) es) ≡ option_and_then (value_of_text (chars q)) (value_of (chars q) (pairs_in es))
  value-found q u es s = (found q u es s.read).1 ∙ ap (option_and_then (value_of_text (chars q))) (first-settled (chars q) (pairs_in es) s.settled)

-- Replacing the lower list by its last values doesn't change the last values of both lists.
pub overlaid-under : (under over : List Variable) → last_values (last_values under ++ over) ≡ last_values (under ++ over)
overlaid-under under over =
    sym (overlaid (last_values under) over) ∙ ap (λ (vs : List Variable). last_values (vs ++ last_values over)) (twice under) ∙ overlaid under over

-- Replacing the upper list by its last values doesn't change the last values of both lists.
pub overlaid-over : (under over : List Variable) → last_values (under ++ last_values over) ≡ last_values (under ++ over)
overlaid-over under over = sym (overlaid-under under (last_values over)) ∙ overlaid under over

-- The text of a name is its text in the upper layer, or else in the lower layer.
layered : (name : List ℕ) (under own all : List Variable) → last_values (under ++ own) ≡ all → value_of name all ≡ option_or (value_of name own) (value_of name under)
layered name under own all e = ap (value_of name) (sym e) ∙ value_is name (under ++ own) ∙ value_of-append name under own

pub given-over : (name : List ℕ) (under own all : List Variable) (text : List ℕ) → last_values (under ++ own) ≡ all → Some text ≡ value_of name own → value_of name own ≡ value_of name all
given-over name under own all text e f = sym f ∙ sym (layered name under own all e ∙ ap (λ (o : Option (List ℕ)). option_or o (value_of name under)) (sym f))

pub given-program_layer : (name : List ℕ) (under own all : List Variable) → last_values (under ++ own) ≡ all → None ≡ value_of name own → value_of name under ≡ value_of name all
given-program_layer name under own all e f = sym (layered name under own all e ∙ ap (λ (o : Option (List ℕ)). option_or o (value_of name under)) (sym f))

-- Setting the first of the remaining entries preserves the final values `all`.
pub next-entry : {Z : Type 0} (old new : List Variable) (bytes : List ℕ) (copy : PropertyDefinition) (key : String Z) (it : PropertyDefinition) (rest after : List (String Z × PropertyDefinition)) {all : List Variable}
    → bytes ≡ string_bytes key → copy ≡ it → new ≡ last_values (old ++ name_with_value (chars bytes) copy.text ∷ []) → rest ≡ (key, it) ∷ after
    → last_values (old ++ pairs_in rest) ≡ all → last_values (new ++ pairs_in after) ≡ all
next-entry {Z} old new bytes copy key it rest after k v n parts so_far =
    let same : name_with_value (chars bytes) copy.text ≡ pair_in (key, it)
    = ap (λ (b : List ℕ). name_with_value (chars b) copy.text) k ∙ ap (λ (g : PropertyDefinition). name_with_value (chars (string_bytes key)) g.text) v in
    ap (λ (ps : List Variable). last_values (ps ++ pairs_in after)) (n ∙ ap (λ (p : Variable). last_values (old ++ p ∷ [])) same)
    ∙ overlaid-under (old ++ pair_in (key, it) ∷ []) (pairs_in after) ∙ ap last_values (append_assoc old (pair_in (key, it) ∷ []) (pairs_in after))
    ∙ ap (λ (es : List (String Z × PropertyDefinition)). last_values (old ++ pairs_in es)) (sym parts) ∙ so_far

-- Setting a property in the upper layer sets it in the last values of both layers.
pub set-last : (under own new all definitions : List Variable) (given due : Variable) → given ≡ due → new ≡ last_values (own ++ given ∷ []) → last_values (under ++ own) ≡ all → all ≡ last_values definitions
    → last_values (under ++ new) ≡ last_values (definitions ++ due ∷ [])
set-last under own new all definitions given due same n view last =
    ap (λ (vs : List Variable). last_values (under ++ vs)) (n ∙ ap (λ (p : Variable). last_values (own ++ p ∷ [])) same) ∙ overlaid-over under (own ++ due ∷ [])
    ∙ ap last_values (sym (append_assoc under own (due ∷ []))) ∙ sym (overlaid-under (under ++ own) (due ∷ []))
    ∙ ap (λ (vs : List Variable). last_values (vs ++ due ∷ [])) (view ∙ last) ∙ overlaid-under definitions (due ∷ [])

-- The last values of two layers have each name once.
pub once : (under own all : List Variable) → last_values (under ++ own) ≡ all → all ≡ last_values all
once under own all e = sym e ∙ sym (twice (under ++ own)) ∙ ap last_values e

-- Setting the properties of a program and then those of a case sets the last values of both.
pub laid-over : (old program own mid new all : List Variable) → last_values (program ++ own) ≡ all → mid ≡ last_values (old ++ program) → new ≡ last_values (mid ++ own) → new ≡ last_values (old ++ all)
laid-over old program own mid new all view m n =
    n ∙ ap (λ (vs : List Variable). last_values (vs ++ own)) m ∙ overlaid-under (old ++ program) own ∙ ap last_values (append_assoc old program own) ∙ sym (overlaid-over old (program ++ own))
    ∙ ap (λ (vs : List Variable). last_values (old ++ vs)) view

-- Overlaying a case's properties over its program's upper layer overlays them over all properties.
pub case-over : (program_layer own first second program case : List Variable) → last_values (program_layer ++ own) ≡ program → first ≡ last_values own → second ≡ last_values (first ++ case)
    → last_values (program_layer ++ second) ≡ last_values (program ++ case)
case-over program_layer own first second program case view f s =
    ap (λ (vs : List Variable). last_values (program_layer ++ vs)) s ∙ overlaid-over program_layer (first ++ case) ∙ ap last_values (sym (append_assoc program_layer first case)) ∙ sym (overlaid-under (program_layer ++ first) case)
    ∙ ap (λ (ps : List Variable). last_values (ps ++ case)) (ap (λ (vs : List Variable). last_values (program_layer ++ vs)) f ∙ overlaid-over program_layer own ∙ view)

-- The last values of two lists of last values are those of both lists of definitions.
pub definitions-over : (program case under over : List Variable) → program ≡ last_values under → case ≡ last_values over → last_values (program ++ case) ≡ last_values (under ++ over)
definitions-over program case under over u o =
    ap (λ (ps : List Variable). last_values (ps ++ case)) u ∙ ap (λ (cs : List Variable). last_values (last_values under ++ cs)) o ∙ overlaid under over
