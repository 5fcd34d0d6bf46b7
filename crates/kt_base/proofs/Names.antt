-- Lists of pairs, searched and filtered by name.
use Rattle.std.proofs.Common.{◌≡◌, ℕ, Bool, true, false, List, [], ◌∷◌, ◌++◌, refl, sym, ap, ◌∙◌, subst, Option, Some, None, if◌then◌else◌, unwrap_or}
use Rattle.kt_base.proofs.Common.{option_or, bytes_eq, bytes_eq-Decides, Variable, is_named, value_of, pairs_without, last_values}

pub same : (m n : List ℕ) → bytes_eq m n ≡ true → m ≡ n
same m n e = (bytes_eq-Decides m n).0 e

pub same-refl : (n : List ℕ) → bytes_eq n n ≡ true
same-refl n = (bytes_eq-Decides n n).1 refl

flipped : (m n : List ℕ) (b c : Bool) → bytes_eq m n ≡ b → bytes_eq n m ≡ c → b ≡ c
flipped m n true true e f = refl
flipped m n false false e f = refl
flipped m n true false e f = absurd (let g : n ≡ m = sym (same m n e) in let h : bytes_eq n m ≡ true = subst (λ (x : List ℕ). bytes_eq n x ≡ true) g (same-refl n) in cc)
flipped m n false true e f = absurd (let g : m ≡ n = sym (same n m f) in let h : bytes_eq m n ≡ true = subst (λ (x : List ℕ). bytes_eq m x ≡ true) g (same-refl m) in cc)

pub same-flip : (m n : List ℕ) → bytes_eq m n ≡ bytes_eq n m
same-flip m n = flipped m n (bytes_eq m n) (bytes_eq n m) refl refl

pub or-none : (o : Option (List ℕ)) → option_or o None ≡ o
or-none None = refl
or-none (Some value) = refl

pub or-or : (a b c : Option (List ℕ)) → option_or a (option_or b c) ≡ option_or (option_or a b) c
or-or None b c = refl
or-or (Some value) b c = refl

pub or-some : (o : Option (List ℕ)) (value : List ℕ) → option_or o (Some value) ≡ Some (unwrap_or o value)
or-some None value = refl
or-some (Some v) value = refl

pub unwrap-or : (a b : Option (List ℕ)) (value : List ℕ) → unwrap_or (option_or a b) value ≡ unwrap_or a (unwrap_or b value)
unwrap-or None b value = refl
unwrap-or (Some v) b value = refl

-- the value of a name in two joined lists is its value in the second list; if that list does not
-- have the name, it is the value in the first list
pub value_of-append : (name : List ℕ) (xs ys : List Variable) → value_of name (xs ++ ys) ≡ option_or (value_of name ys) (value_of name xs)
value_of-append name [] ys = sym (or-none (value_of name ys))
value_of-append name (x ∷ xs) ys =
    ap (λ (o : Option (List ℕ)). option_or o (if is_named name x then Some x.value else None)) (value_of-append name xs ys)
    ∙ sym (or-or (value_of name ys) (value_of name xs) (if is_named name x then Some x.value else None))

-- a name has no value in a list from which all pairs of that name are removed
pairs_without-same-next : (name : List ℕ) (x : Variable) (xs : List Variable) → value_of name (pairs_without name xs) ≡ None → (b : Bool) → is_named name x ≡ b → value_of name (pairs_without name (x ∷ xs)) ≡ None
pairs_without-same-next name x xs h true e = rw e h
pairs_without-same-next name x xs h false e = rw (e, h, e) refl

pub pairs_without-same : (name : List ℕ) (xs : List Variable) → value_of name (pairs_without name xs) ≡ None
pairs_without-same name [] = refl
pairs_without-same name (x ∷ xs) = pairs_without-same-next name x xs (pairs_without-same name xs) (is_named name x) refl

-- a name keeps its value if the pairs of another name are removed
pairs_without-other-next : (m n : List ℕ) (x : Variable) (xs : List Variable) → bytes_eq m n ≡ false → value_of m (pairs_without n xs) ≡ value_of m xs
    → (b : Bool) → is_named n x ≡ b → value_of m (pairs_without n (x ∷ xs)) ≡ value_of m (x ∷ xs)
pairs_without-other-next m n x xs other h true e =
    let not_m : is_named m x ≡ false = subst (λ (y : List ℕ). bytes_eq m y ≡ false) (same n x.name e) other in
    rw (e, not_m, h) (sym (or-none (value_of m xs)))
pairs_without-other-next m n x xs other h false e = rw (e, h) refl

pub pairs_without-other : (m n : List ℕ) (xs : List Variable) → bytes_eq m n ≡ false → value_of m (pairs_without n xs) ≡ value_of m xs
pairs_without-other m n [] other = refl
pairs_without-other m n (x ∷ xs) other = pairs_without-other-next m n x xs other (pairs_without-other m n xs other) (is_named n x) refl

-- removing a name twice changes nothing, and two names can be removed in either order
pairs_without-twice-next : (name : List ℕ) (x : Variable) (xs : List Variable) → pairs_without name (pairs_without name xs) ≡ pairs_without name xs
    → (b : Bool) → is_named name x ≡ b → pairs_without name (pairs_without name (x ∷ xs)) ≡ pairs_without name (x ∷ xs)
pairs_without-twice-next name x xs h true e = rw e h
pairs_without-twice-next name x xs h false e = rw (e, e, h) refl

pub pairs_without-twice : (name : List ℕ) (xs : List Variable) → pairs_without name (pairs_without name xs) ≡ pairs_without name xs
pairs_without-twice name [] = refl
pairs_without-twice name (x ∷ xs) = pairs_without-twice-next name x xs (pairs_without-twice name xs) (is_named name x) refl

pairs_without-swap-next : (m n : List ℕ) (x : Variable) (xs : List Variable) → pairs_without m (pairs_without n xs) ≡ pairs_without n (pairs_without m xs)
    → (a b : Bool) → is_named m x ≡ a → is_named n x ≡ b → pairs_without m (pairs_without n (x ∷ xs)) ≡ pairs_without n (pairs_without m (x ∷ xs))
pairs_without-swap-next m n x xs h true true d e = rw (e, d) h
pairs_without-swap-next m n x xs h true false d e = rw (d, e, d) h
pairs_without-swap-next m n x xs h false true d e = rw (d, e) h
pairs_without-swap-next m n x xs h false false d e = rw (d, e, d) (ap (λ (ps : List Variable). x ∷ ps) h)

pub pairs_without-swap : (m n : List ℕ) (xs : List Variable) → pairs_without m (pairs_without n xs) ≡ pairs_without n (pairs_without m xs)
pairs_without-swap m n [] = refl
pairs_without-swap m n (x ∷ xs) = pairs_without-swap-next m n x xs (pairs_without-swap m n xs) (is_named m x) (is_named n x) refl refl

last_values-pairs_without-next : (name : List ℕ) (x : Variable) (xs : List Variable) → last_values (pairs_without name xs) ≡ pairs_without name (last_values xs)
    → (b : Bool) → is_named name x ≡ b → last_values (pairs_without name (x ∷ xs)) ≡ pairs_without name (last_values (x ∷ xs))
last_values-pairs_without-next name x xs h true e =
    rw e (h ∙ sym (pairs_without-twice name (last_values xs)) ∙ ap (λ (n : List ℕ). pairs_without name (pairs_without n (last_values xs))) (same name x.name e))
last_values-pairs_without-next name x xs h false e =
    let other : bytes_eq x.name name ≡ false = same-flip x.name name ∙ e in
    rw (e, pairs_without-other x.name name xs other, h, pairs_without-swap x.name name (last_values xs)) refl

pub last_values-pairs_without : (name : List ℕ) (xs : List Variable) → last_values (pairs_without name xs) ≡ pairs_without name (last_values xs)
last_values-pairs_without name [] = refl
last_values-pairs_without name (x ∷ xs) = last_values-pairs_without-next name x xs (last_values-pairs_without name xs) (is_named name x) refl
