-- Keys and the names of the properties that they represent.
use Rattle.std.proofs.Common.{◌≡◌, ℕ, zero, suc, Bool, true, false, List, [], ◌∷◌, ◌++◌, refl, sym, ap, ◌∙◌, subst, Option, Some, None, bytes_eq, ◌&&◌, codes, IfSome, IsSome, is_some, option_and_then, slice_get}
use Rattle.kt_metadata.proofs.Common.{find, list_all, option_map, option_or, same, PropertyRow, table, form_of_property, non_empty_suffix, after_prefix, non_empty_text, has_key, name_of_key, IsKeyOf}
use Rattle.kt_metadata.specs.ListKeys as key
use Rattle.kt_metadata.proofs.Fronts.{append-after_prefix}
use Rattle.std.proofs.lemmas.Option.{same_Some}

and-parts : (a b : Bool) → (a && b) ≡ true → (a ≡ true) × (b ≡ true)
and-parts true b e = (refl, e)
and-parts false b e = absurd (cc)

module _ (passes : PropertyRow → Bool) where
  -- A row that `find` returns is in the table and passes the test.
  found-next : (q : PropertyRow) (qs : List PropertyRow) (r : PropertyRow) → (find passes qs ≡ Some r → (place : ℕ) × (slice_get qs place ≡ Some r) × (passes r ≡ true))
      → (b : Bool) → passes q ≡ b → find passes (q ∷ qs) ≡ Some r → (place : ℕ) × (slice_get (q ∷ qs) place ≡ Some r) × (passes r ≡ true)
  found-next q qs r h true t e = let here : Some q ≡ Some r = rw t at e in (zero, here, subst (λ (x : PropertyRow). passes x ≡ true) (same_Some q r here) t)
  found-next q qs r h false t e = let later = h (rw t at e) in (suc later.0, later.1, later.2)

  found-row : (rows : List PropertyRow) (r : PropertyRow) → find passes rows ≡ Some r → (place : ℕ) × (slice_get rows place ≡ Some r) × (passes r ≡ true)
  found-row [] r e = absurd (cc)
  found-row (q ∷ qs) r e = found-next q qs r (found-row qs r) (passes q) refl e

  -- If all rows of a table pass a test, the row at each index passes it.
  row-passes : (rows : List PropertyRow) (place : ℕ) (r : PropertyRow) → list_all passes rows ≡ true → slice_get rows place ≡ Some r → passes r ≡ true
  row-passes [] place r all e = absurd (cc)
  row-passes (q ∷ qs) zero r all e = subst (λ (x : PropertyRow). passes x ≡ true) (same_Some q r e) (and-parts (passes q) (list_all passes qs) all).0
  row-passes (q ∷ qs) (suc place) r all e = row-passes qs place r (and-parts (passes q) (list_all passes qs) all).1 e

-- `is_it name found`: `found` is the name `name`, not another name or nothing.
abbrev is_it : List ℕ → Option (List ℕ) → Bool
is_it name None = false
is_it name (Some found) = bytes_eq found name

it-is : (name : List ℕ) (found : Option (List ℕ)) → is_it name found ≡ true → found ≡ Some name
it-is name None e = absurd (cc)
it-is name (Some found) e = ap (λ (n : List ℕ). Some n) (same found name e)

-- For each row of the table, `name_of_key` of its key is its name.
keys-lead : list_all (λ r. is_it r.name (name_of_key r.key)) table ≡ true
keys-lead = refl

-- For each row of the table, `form_of_property` of its name returns a form.
names-known : list_all (λ r. is_some (form_of_property r.name)) table ≡ true
names-known = refl

-- `name_of_key` returns the name that a key represents.
pub name-found : (text name : List ℕ) → IsKeyOf text name → name_of_key text ≡ Some name
name-found _ _ (key.listed place r at) = it-is r.name (name_of_key r.key) (row-passes (λ r. is_it r.name (name_of_key r.key)) table place r keys-lead at)
name-found _ _ (key.custom c cs) = refl

-- If `non_empty_text rest` returns a text, `rest` has a first character.
non_empty_text-parts : (rest part : List ℕ) → non_empty_text rest ≡ Some part → (c : ℕ) × (cs : List ℕ) × (rest ≡ c ∷ cs) × (part ≡ c ∷ cs)
non_empty_text-parts [] part e = absurd (cc)
non_empty_text-parts (c ∷ cs) part e = let f : c ∷ cs ≡ part = cc in (c, cs, refl, sym f)

own-parts : (front text part : List ℕ) (after : Option (List ℕ)) → after_prefix front text ≡ after → option_and_then non_empty_text after ≡ Some part
    → (c : ℕ) × (cs : List ℕ) × (text ≡ front ++ (c ∷ cs)) × (part ≡ c ∷ cs)
own-parts front text part None e f = absurd (cc)
own-parts front text part (Some rest) e f =
    let parts = non_empty_text-parts rest part f in
    (parts.0, parts.1, append-after_prefix front text rest e ∙ ap (λ (r : List ℕ). front ++ r) parts.2, parts.3)

-- A key `X-NAME` represents the custom name that the search returns.
custom-stands : (text name : List ℕ) (part : Option (List ℕ)) → non_empty_suffix (codes "X-") text ≡ part → option_map (λ p. codes "custom." ++ p) part ≡ Some name → IsKeyOf text name
custom-stands text name None e f = absurd (cc)
custom-stands text name (Some part) e f =
    let parts = own-parts (codes "X-") text part (after_prefix (codes "X-") text) refl e in
    let named : codes "custom." ++ part ≡ name = cc in
    subst (λ (t : List ℕ). IsKeyOf t name) (sym parts.2)
    (subst (λ (n : List ℕ). IsKeyOf (codes "X-" ++ (parts.0 ∷ parts.1)) n) (ap (λ (p : List ℕ). codes "custom." ++ p) (sym parts.3) ∙ named)
    (key.custom parts.0 parts.1))

stands-next : (text name : List ℕ) (found : Option PropertyRow) → find (has_key text) table ≡ found
    → option_or (option_map (λ r. r.name) found) (option_map (λ p. codes "custom." ++ p) (non_empty_suffix (codes "X-") text)) ≡ Some name → IsKeyOf text name
stands-next text name None e f = custom-stands text name (non_empty_suffix (codes "X-") text) refl f
stands-next text name (Some r) e f =
    let row = found-row (has_key text) table r e in
    let named : r.name ≡ name = cc in
    subst (λ (t : List ℕ). IsKeyOf t name) (sym (same text r.key row.2)) (subst (λ (n : List ℕ). IsKeyOf r.key n) named (key.listed row.0 r row.1))

pub stands : (text : List ℕ) (found : Option (List ℕ)) → found ≡ name_of_key text → IfSome found (λ name. IsKeyOf text name)
stands text None e = tt
stands text (Some name) e = stands-next text name (find (has_key text) table) refl (sym e)

-- `form_of_property` returns a form for each name that a key represents.
known-next : (text name : List ℕ) → IsKeyOf text name → IsSome (form_of_property name)
known-next _ _ (key.listed place r at) = row-passes (λ r. is_some (form_of_property r.name)) table place r names-known at
known-next _ _ (key.custom c cs) = refl

pub known : (text : List ℕ) (found : Option (List ℕ)) → found ≡ name_of_key text → IfSome found (λ name. IsSome (form_of_property name))
known text None e = tt
known text (Some name) e = known-next text name (stands text (Some name) e)
