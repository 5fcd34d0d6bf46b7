-- Properties that a block sets once, and names that a list has once.
use Rattle.std.proofs.Common.{◌≡◌, ℕ, Bool, true, false, List, [], ◌∷◌, ◌++◌, Option, Some, None, Result, Ok, Err, OnOk, OnErr, is_some, refl, ap, sym, map, ◌∙◌, bytes_eq, Bor, option_copied}
use Rattle.kt_atflist.proofs.Common.{list_any, Variable, name_of, names_of, is_listed, has_property, with_property, CaseDef}
use Rattle.kt_base.specs.LastValues.{is_named, value_of, last_values}
use Rattle.kt_base.proofs.LastValueLaws.{appended, twice}

-- ---- properties

pub copied : {T : Type 0} (o : Option (Bor T)) → is_some (option_copied o) ≡ is_some o
copied None = refl
copied (Some x) = refl

given-next : (name : List ℕ) (x : Variable) (xs : List Variable) (b : Bool) (o : Option (List ℕ)) → is_named name x ≡ b → value_of name xs ≡ o
    → is_some o ≡ has_property xs name → is_some (value_of name (x ∷ xs)) ≡ has_property (x ∷ xs) name
given-next name x xs true None e f h = rw (e, f) refl
given-next name x xs true (Some value) e f h = rw (e, f) refl
given-next name x xs false None e f h = rw (e, f) h
given-next name x xs false (Some value) e f h = rw (e, f) h

-- A name has a value if and only if a pair has the name.
pub given : (name : List ℕ) (xs : List Variable) → is_some (value_of name xs) ≡ has_property xs name
given name [] = refl
given name (x ∷ xs) = given-next name x xs (is_named name x) (value_of name xs) refl refl (given name xs)

none-of : (o : Option (List ℕ)) → is_some o ≡ false → o ≡ None
none-of None e = refl
none-of (Some value) e = absurd (cc)

-- After a call that sets a property, successful or not, each name still has one value.
pub settled-after : {U E : Type 0} (r : Result U E) (old new : List Variable) (pair : Variable) → old ≡ last_values old
    → OnOk r (new ≡ last_values (old ++ pair ∷ [])) → OnErr r (new ≡ old) → new ≡ last_values new
settled-after (Ok u) old new pair s set kept = set ∙ sym (twice (old ++ pair ∷ [])) ∙ ap last_values (sym set)
settled-after (Err e) old new pair s set kept = kept ∙ s ∙ ap last_values (sym kept)

-- `as_case name props`: the case of a block with the name `name` and the properties `props`.
abbrev as_case : List ℕ → List Variable → CaseDef
as_case name props = record { name = name; props = props; fault = None }

-- Setting a property that the block does not have yet appends the property.
pub property-after : {U E : Type 0} (r : Result U E) (called : List ℕ) (old new : List Variable) (now : CaseDef) (pair : Variable) → as_case called old ≡ now
    → old ≡ last_values old → has_property now.props pair.name ≡ false → OnOk r (new ≡ last_values (old ++ pair ∷ [])) → OnOk r (as_case called new ≡ with_property now pair.name pair.value)
property-after (Ok u) called old new now pair v s g set =
    let absent : value_of pair.name old ≡ None = none-of (value_of pair.name old) (given pair.name old ∙ ap (λ (case : CaseDef). has_property case.props pair.name) v ∙ g) in
    let last : new ≡ old ++ pair ∷ [] = set ∙ appended old pair absent ∙ ap (λ (props : List Variable). props ++ pair ∷ []) (sym s) in
    ap (as_case called) last ∙ ap (λ (case : CaseDef). with_property case pair.name pair.value) v
property-after (Err e) called old new now pair v s g set = record {}

-- ---- names

-- A name is among the names of the cases if and only if a case has it.
pub listed : (name : List ℕ) (cases : List CaseDef) → list_any (bytes_eq name) (map name_of cases) ≡ is_listed cases name
listed name [] = refl
listed name (case ∷ cases) = rw (listed name cases) refl

pub among-names : (name : List ℕ) (names : List (List ℕ)) (cases : List CaseDef) → names ≡ names_of cases None → list_any (bytes_eq name) names ≡ is_listed cases name
among-names name names cases e = ap (list_any (bytes_eq name)) e ∙ listed name cases
