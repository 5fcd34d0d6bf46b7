-- Theorems on the last values of names.
use Rattle.std.proofs.Common.{◌≡◌, ℕ, Bool, true, false, not, List, [], ◌∷◌, ◌++◌, refl, sym, ap, ◌∙◌, subst, Option, Some, None, if◌then◌else◌, unwrap_or, IsSome, append-nil}
use Rattle.kt_base.proofs.Common.{option_or, bytes_eq, Variable, is_named, value_of, pairs_without, last_values, Replaces}
use Rattle.std.proofs.lemmas.List.Elements.{filter-append}
use Rattle.kt_base.proofs.Names.{same, same-flip, or-none, or-some, unwrap-or, value_of-append, pairs_without-same, pairs_without-other, pairs_without-twice, last_values-pairs_without}

-- `first_of pair pairs`: `pair` with the last value of its name in `pair ∷ pairs`
abbrev pub first_of : Variable → List Variable → Variable
first_of pair pairs = record { name = pair.name; value = unwrap_or (value_of pair.name pairs) pair.value }

-- a name has the same value in the last values as in the pairs
value_next : (name : List ℕ) (x : Variable) (xs : List Variable) → value_of name (last_values xs) ≡ value_of name xs
    → (b : Bool) → is_named name x ≡ b → value_of name (last_values (x ∷ xs)) ≡ value_of name (x ∷ xs)
value_next name x xs h true e =
    let n : name ≡ x.name = same name x.name e in
    let gone : value_of name (pairs_without x.name (last_values xs)) ≡ None = subst (λ (m : List ℕ). value_of name (pairs_without m (last_values xs)) ≡ None) n (pairs_without-same name (last_values xs)) in
    rw (gone, e) (ap (λ (m : List ℕ). Some (unwrap_or (value_of m xs) x.value)) (sym n) ∙ sym (or-some (value_of name xs) x.value))
value_next name x xs h false e = rw (pairs_without-other name x.name (last_values xs) e, e, h) refl

pub value_is : (name : List ℕ) (xs : List Variable) → value_of name (last_values xs) ≡ value_of name xs
value_is name [] = refl
value_is name (x ∷ xs) = value_next name x xs (value_is name xs) (is_named name x) refl

-- joining two lists gives the same last values as joining the last values of each list
pub overlaid : (under over : List Variable) → last_values (last_values under ++ last_values over) ≡ last_values (under ++ over)
overlaid [] [] = refl
overlaid [] (y ∷ ys) =
    rw (pairs_without-same y.name (last_values ys), last_values-pairs_without y.name (last_values ys), pairs_without-twice y.name (last_values (last_values ys)), overlaid [] ys) refl
overlaid (x ∷ xs) over =
    let rest : value_of x.name (pairs_without x.name (last_values xs) ++ last_values over) ≡ value_of x.name over
    = value_of-append x.name (pairs_without x.name (last_values xs)) (last_values over)
    ∙ ap (λ (o : Option (List ℕ)). option_or (value_of x.name (last_values over)) o) (pairs_without-same x.name (last_values xs))
    ∙ or-none (value_of x.name (last_values over)) ∙ value_is x.name over in
    let head : unwrap_or (value_of x.name (pairs_without x.name (last_values xs) ++ last_values over)) (unwrap_or (value_of x.name xs) x.value) ≡ unwrap_or (value_of x.name (xs ++ over)) x.value
    = ap (λ (o : Option (List ℕ)). unwrap_or o (unwrap_or (value_of x.name xs) x.value)) rest
    ∙ sym (unwrap-or (value_of x.name over) (value_of x.name xs) x.value)
    ∙ ap (λ (o : Option (List ℕ)). unwrap_or o x.value) (sym (value_of-append x.name xs over)) in
    let tail : pairs_without x.name (last_values (pairs_without x.name (last_values xs) ++ last_values over)) ≡ pairs_without x.name (last_values (xs ++ over))
    = sym (last_values-pairs_without x.name (pairs_without x.name (last_values xs) ++ last_values over))
    ∙ ap last_values (filter-append (λ pair. not (is_named x.name pair)) (pairs_without x.name (last_values xs)) (last_values over)
    ∙ ap (λ (ps : List Variable). ps ++ pairs_without x.name (last_values over)) (pairs_without-twice x.name (last_values xs))
    ∙ sym (filter-append (λ pair. not (is_named x.name pair)) (last_values xs) (last_values over)))
    ∙ last_values-pairs_without x.name (last_values xs ++ last_values over)
    ∙ ap (pairs_without x.name) (overlaid xs over) in
    rw (head, tail) refl

-- `last_values` is idempotent
pub twice : (xs : List Variable) → last_values (last_values xs) ≡ last_values xs
twice xs = overlaid [] xs

-- an appended pair does not change the value of another name
pub value_of-further : (name : List ℕ) (xs : List Variable) (pair : Variable) → bytes_eq name pair.name ≡ false → value_of name (xs ++ pair ∷ []) ≡ value_of name xs
value_of-further name xs pair other = value_of-append name xs (pair ∷ []) ∙ rw other refl

-- an appended pair is removed if the pairs of its name are removed
pub pairs_without-further : (name : List ℕ) (xs : List Variable) (pair : Variable) → bytes_eq name pair.name ≡ true → pairs_without name (xs ++ pair ∷ []) ≡ pairs_without name xs
pairs_without-further name xs pair e = filter-append (λ p. not (is_named name p)) xs (pair ∷ []) ∙ rw e (append-nil (pairs_without name xs))

-- an appended pair does not change the last value of a first pair with another name
pub first-further : (x pair : Variable) (xs : List Variable) → bytes_eq x.name pair.name ≡ false → first_of x (xs ++ pair ∷ []) ≡ first_of x xs
first-further x pair xs other = rw (value_of-further x.name xs pair other) refl

none-parts : (a b : Option (List ℕ)) → option_or a b ≡ None → (a ≡ None) × (b ≡ None)
none-parts None b e = (refl, e)
none-parts (Some value) b e = absurd (cc)

not_first : (b : Bool) (value : List ℕ) → (if b then Some value else None) ≡ None → b ≡ false
not_first true value e = absurd (cc)
not_first false value e = refl

pub appended : (xs : List Variable) (pair : Variable) → value_of pair.name xs ≡ None → last_values (xs ++ pair ∷ []) ≡ last_values xs ++ pair ∷ []
appended [] pair none = refl
appended (x ∷ xs) pair none =
    let parts = none-parts (value_of pair.name xs) (if is_named pair.name x then Some x.value else None) none in
    let other : bytes_eq x.name pair.name ≡ false = same-flip x.name pair.name ∙ not_first (is_named pair.name x) x.value parts.1 in
    rw (value_of-further x.name xs pair other, appended xs pair parts.0, filter-append (λ p. not (is_named x.name p)) (last_values xs) (pair ∷ []), other) refl

some_left : (a : Option (List ℕ)) → IsSome (option_or a None) → IsSome a
some_left None s = s
some_left (Some value) s = refl

replaced_here : (x pair : Variable) (xs : List Variable) → is_named pair.name x ≡ true → Replaces pair (last_values (x ∷ xs)) (last_values (x ∷ xs ++ pair ∷ []))
replaced_here x pair xs e =
    let n : pair.name ≡ x.name = same pair.name x.name e in
    let f : bytes_eq x.name pair.name ≡ true = same-flip x.name pair.name ∙ e in
    let value : value_of x.name (xs ++ pair ∷ []) ≡ Some pair.value = value_of-append x.name xs (pair ∷ []) ∙ rw f refl in
    let tail : pairs_without x.name (last_values (xs ++ pair ∷ [])) ≡ pairs_without x.name (last_values xs)
    = sym (last_values-pairs_without x.name (xs ++ pair ∷ [])) ∙ ap last_values (pairs_without-further x.name xs pair f) ∙ last_values-pairs_without x.name xs in
    record {
      front = [];
      back = pairs_without x.name (last_values xs);
      before = first_of x xs;
      name = sym n;
      old_is = refl;
      new_is = rw (value, tail, ← n) refl;
    }

replaced_later : (x pair : Variable) (xs : List Variable) → bytes_eq x.name pair.name ≡ false → Replaces pair (last_values xs) (last_values (xs ++ pair ∷ []))
    → Replaces pair (last_values (x ∷ xs)) (last_values (x ∷ xs ++ pair ∷ []))
replaced_later x pair xs other r =
    let split : (p : Variable) → p.name ≡ pair.name → pairs_without x.name (r.front ++ p ∷ r.back) ≡ pairs_without x.name r.front ++ p ∷ pairs_without x.name r.back
    = λ p n. filter-append (λ q. not (is_named x.name q)) r.front (p ∷ r.back) ∙ rw (ap (bytes_eq x.name) n ∙ other) refl in
    record {
      front = first_of x xs ∷ pairs_without x.name r.front;
      back = pairs_without x.name r.back;
      before = r.before;
      name = r.name;
      old_is = ap (λ (ps : List Variable). first_of x xs ∷ ps) (ap (pairs_without x.name) r.old_is ∙ split r.before r.name);
      new_is = ap (λ (v : Variable). v ∷ pairs_without x.name (last_values (xs ++ pair ∷ []))) (first-further x pair xs other)
          ∙ ap (λ (ps : List Variable). first_of x xs ∷ ps) (ap (pairs_without x.name) r.new_is ∙ split pair refl);
    }

replaced_cases : (x pair : Variable) (xs : List Variable) (b : Bool) → is_named pair.name x ≡ b → IsSome (option_or (value_of pair.name xs) (if is_named pair.name x then Some x.value else None))
    → (IsSome (value_of pair.name xs) → Replaces pair (last_values xs) (last_values (xs ++ pair ∷ []))) → Replaces pair (last_values (x ∷ xs)) (last_values (x ∷ xs ++ pair ∷ []))
replaced_cases x pair xs true e s go = replaced_here x pair xs e
replaced_cases x pair xs false e s go =
    let t : IsSome (option_or (value_of pair.name xs) None) = rw e at s in
    replaced_later x pair xs (same-flip x.name pair.name ∙ e) (go (some_left (value_of pair.name xs) t))

pub replaced : (xs : List Variable) (pair : Variable) → IsSome (value_of pair.name xs) → Replaces pair (last_values xs) (last_values (xs ++ pair ∷ []))
replaced [] pair s = absurd (cc)
replaced (x ∷ xs) pair s = replaced_cases x pair xs (is_named pair.name x) refl s (λ t. replaced xs pair t)
