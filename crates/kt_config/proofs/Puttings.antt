-- Last values that are updated in place.
use Rattle.std.proofs.Common.{◌≡◌, ℕ, Bool, true, false, List, [], ◌∷◌, ◌++◌, refl, sym, ap, ◌∙◌, subst, Option, Some, None, if◌then◌else◌, unwrap_or}
use Rattle.kt_config.proofs.Common.{bytes_eq, Variable, is_named, value_of, pairs_without, last_values, same, same-flip, or-none, or-some, value_of-append, last_values-pairs_without}
use Rattle.kt_base.proofs.LastValueLaws.{first_of, overlaid, pairs_without-further, first-further, twice}

-- `put pairs pair`: `pairs` with `pair` in place of the first pair of its name, or appended if
-- there is none
abbrev pub put : List Variable → Variable → List Variable
put [] pair = pair ∷ []
put (first ∷ rest) pair = if is_named pair.name first then record { name = first.name; value = pair.value } ∷ rest else first ∷ put rest pair

-- `first_value name pairs`: the value of the first pair named `name` in `pairs`, or nothing if no
-- pair has this name
abbrev pub first_value : List ℕ → List Variable → Option (List ℕ)
first_value name [] = None
first_value name (first ∷ rest) = if is_named name first then Some first.value else first_value name rest

-- `put` of a name and the removal of another name can be done in either order
put-pairs_without-next : (n : List ℕ) (p y : Variable) (ys : List Variable) → bytes_eq n p.name ≡ false → put (pairs_without n ys) p ≡ pairs_without n (put ys p)
    → (b d : Bool) → is_named p.name y ≡ b → is_named n y ≡ d → put (pairs_without n (y ∷ ys)) p ≡ pairs_without n (put (y ∷ ys) p)
put-pairs_without-next n p y ys other h true true e f =
    absurd (let g : bytes_eq n p.name ≡ true = subst (λ (m : List ℕ). bytes_eq n m ≡ true) (sym (same p.name y.name e)) f in cc)
put-pairs_without-next n p y ys other h false true e f = rw (f, e, f) h
put-pairs_without-next n p y ys other h true false e f = rw (f, e, f) refl
put-pairs_without-next n p y ys other h false false e f = rw (f, e, f) (ap (λ (ps : List Variable). y ∷ ps) h)

put-pairs_without : (n : List ℕ) (p : Variable) (ys : List Variable) → bytes_eq n p.name ≡ false → put (pairs_without n ys) p ≡ pairs_without n (put ys p)
put-pairs_without n p [] other = rw other refl
put-pairs_without n p (y ∷ ys) other = put-pairs_without-next n p y ys other (put-pairs_without n p ys other) (is_named p.name y) (is_named n y) refl refl

put-last-next : (x p : Variable) (xs : List Variable) → put (last_values xs) p ≡ last_values (xs ++ p ∷ [])
    → (b : Bool) → is_named p.name x ≡ b → put (last_values (x ∷ xs)) p ≡ last_values (x ∷ xs ++ p ∷ [])
put-last-next x p xs h true e =
    let f : bytes_eq x.name p.name ≡ true = same-flip x.name p.name ∙ e in
    let value : value_of x.name (xs ++ p ∷ []) ≡ Some p.value = value_of-append x.name xs (p ∷ []) ∙ rw f refl in
    let tail : pairs_without x.name (last_values (xs ++ p ∷ [])) ≡ pairs_without x.name (last_values xs)
    = sym (last_values-pairs_without x.name (xs ++ p ∷ [])) ∙ ap last_values (pairs_without-further x.name xs p f) ∙ last_values-pairs_without x.name xs in
    rw (e, value, tail) refl
put-last-next x p xs h false e =
    let f : bytes_eq x.name p.name ≡ false = same-flip x.name p.name ∙ e in
    let tail : put (pairs_without x.name (last_values xs)) p ≡ pairs_without x.name (last_values (xs ++ p ∷ []))
    = put-pairs_without x.name p (last_values xs) f ∙ ap (pairs_without x.name) h in
    rw e (ap (λ (ps : List Variable). first_of x xs ∷ ps) tail ∙ ap (λ (v : Variable). v ∷ pairs_without x.name (last_values (xs ++ p ∷ []))) (sym (first-further x p xs f)))

-- `put` into the last values of a list gives the last values of the list with the pair appended
put-last : (xs : List Variable) (p : Variable) → put (last_values xs) p ≡ last_values (xs ++ p ∷ [])
put-last [] p = refl
put-last (x ∷ xs) p = put-last-next x p xs (put-last xs p) (is_named p.name x) refl

-- `put` into a list with each name once gives the last values of the list with the pair appended
pub put-settled : (old new : List Variable) (p : Variable) → old ≡ last_values old → new ≡ put old p → new ≡ last_values (old ++ p ∷ [])
put-settled old new p settled e = e ∙ ap (λ (xs : List Variable). put xs p) settled ∙ put-last old p

pub settled-put : (old new : List Variable) (p : Variable) → old ≡ last_values old → new ≡ put old p → new ≡ last_values new
settled-put old new p settled e =
    let n : new ≡ last_values (old ++ p ∷ []) = put-settled old new p settled e in
    n ∙ sym (twice (old ++ p ∷ [])) ∙ ap last_values (sym n)

-- appending a pair to a list or to its last values gives the same last values
pub put-twice : (xs : List Variable) (p : Variable) → last_values (last_values xs ++ p ∷ []) ≡ last_values (xs ++ p ∷ [])
put-twice xs p = overlaid xs (p ∷ [])

-- in a list of last values, the first value of a name is its only value
first-other-next : (m n : List ℕ) (y : Variable) (ys : List Variable) → bytes_eq m n ≡ false → first_value m (pairs_without n ys) ≡ first_value m ys
    → (d : Bool) → is_named n y ≡ d → first_value m (pairs_without n (y ∷ ys)) ≡ first_value m (y ∷ ys)
first-other-next m n y ys other h true f =
    let g : is_named m y ≡ false = subst (λ (k : List ℕ). bytes_eq m k ≡ false) (same n y.name f) other in rw (f, g) h
first-other-next m n y ys other h false f = rw f (ap (λ (o : Option (List ℕ)). if is_named m y then Some y.value else o) h)

first-other : (m n : List ℕ) (ys : List Variable) → bytes_eq m n ≡ false → first_value m (pairs_without n ys) ≡ first_value m ys
first-other m n [] other = refl
first-other m n (y ∷ ys) other = first-other-next m n y ys other (first-other m n ys other) (is_named n y) refl

first-last-next : (name : List ℕ) (x : Variable) (xs : List Variable) → first_value name (last_values xs) ≡ value_of name xs
    → (b : Bool) → is_named name x ≡ b → first_value name (last_values (x ∷ xs)) ≡ value_of name (x ∷ xs)
first-last-next name x xs h true e =
    rw (e) (ap (λ (m : List ℕ). Some (unwrap_or (value_of m xs) x.value)) (sym (same name x.name e)) ∙ sym (or-some (value_of name xs) x.value))
first-last-next name x xs h false e = rw e (first-other name x.name (last_values xs) e ∙ h ∙ sym (or-none (value_of name xs)))

first-last : (name : List ℕ) (xs : List Variable) → first_value name (last_values xs) ≡ value_of name xs
first-last name [] = refl
first-last name (x ∷ xs) = first-last-next name x xs (first-last name xs) (is_named name x) refl

pub first-settled : (name : List ℕ) (xs : List Variable) → xs ≡ last_values xs → first_value name xs ≡ value_of name xs
first-settled name xs settled = ap (first_value name) settled ∙ first-last name xs
