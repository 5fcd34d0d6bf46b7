-- Lemmas on lists by index, on options and on truth values.
use Rattle.kt_sched.proofs.Common.{slice_get, count_by, sum_by, filter, Some, None, map, if◌then◌else◌, ◌≡◌, ◌≢◌, ℕ, zero, suc, ◌+◌, ◌<◌, ◌≤◌, ◌⊎◌, Bool, true, false, cond, List, [], ◌∷◌, ◌++◌, length, take, drop, refl, sym, ◌∙◌, ap, arith, slice_set, inl, inr, false_from_ne_true, slice_get_cases, sum_by-append, filter-append, length-filter, sum_by-cons, list_all, list_any}
use Rattle.std.proofs.lemmas.Grind.{common_steps}
use Rattle.std.proofs.lemmas.List.{length-take}
use Rattle.std.proofs.lemmas.List.Sums as sums
use Rattle.std.proofs.lemmas.List.Sums.{get_or-le-sum_by}
use Rattle.std.proofs.lemmas.Option.{gets, same_Some, slice_get_within}

pub cond_one : (b : Bool) → b ≡ true → cond {A = ℕ} b 1 0 ≡ 1
cond_one b e = ap (λ (c : Bool). cond {A = ℕ} c 1 0) e

pub cond_zero : (b : Bool) → b ≡ false → cond {A = ℕ} b 1 0 ≡ 0
cond_zero b e = ap (λ (c : Bool). cond {A = ℕ} c 1 0) e

pub cond_le : (b : Bool) → cond {A = ℕ} b 1 0 ≤ 1
cond_le b = grind arith

pub count-cons : {X : Type 0} (p : X → Bool) (x : X) (xs : List X) → count_by p (x ∷ xs) ≡ cond (p x) 1 0 + count_by p xs
count-cons p x xs = sum_by-cons (λ y. cond (p y) 1 0) x xs

-- beginnings and rests

-- The rest of a list from an index on begins with the element at that index.
pub drop_at : {X : Type 0} (xs : List X) (i : ℕ) (x : X) → slice_get xs i ≡ Some x → drop i xs ≡ x ∷ drop (i + 1) xs
drop_at xs i x g = grind (arith, common_steps, gets)

pub get_drop : {X : Type 0} (xs : List X) (p k : ℕ) → slice_get (drop p xs) k ≡ slice_get xs (p + k)
get_drop xs p k = grind (arith, common_steps, gets)

pub slice_get-drop : {X : Type 0} (xs : List X) (k : ℕ) → slice_get xs k ≡ slice_get (drop k xs) 0
slice_get-drop xs k = grind (arith, common_steps, gets)

pub get_take : {X : Type 0} (xs : List X) (p j : ℕ) → j < p → slice_get (take p xs) j ≡ slice_get xs j
get_take xs p j l = grind (arith, common_steps, gets)

pub take_within : {X : Type 0} (xs : List X) (p j : ℕ) (x : X) → slice_get (take p xs) j ≡ Some x → j < p
take_within xs p j x g = omega (arith, slice_get_within (take p xs) j x g, length-take p xs)

-- The prefix of a list up to an index, and the element at that index, make the next prefix.
pub take_snoc : {X : Type 0} (xs : List X) (k : ℕ) (x : X) → slice_get xs k ≡ Some x → take (k + 1) xs ≡ take k xs ++ x ∷ []
take_snoc xs k x g = grind (arith, common_steps, gets)

-- elements and places

pub within_some : {X : Type 0} (xs : List X) (i : ℕ) → i < length xs → (x : X) × (slice_get xs i ≡ Some x)
within_some xs i h = elim (slice_get_cases xs i).1 [ inl w ↦ (w.0, w.2) | inr w ↦ absurd (omega (arith, h, w.0)) ]

pub none_past : {X : Type 0} (xs : List X) (k : ℕ) → slice_get xs k ≡ None → length xs ≤ k
none_past xs k e = grind (arith, gets)

pub mapped_at : {X Y : Type 0} (f : X → Y) (xs : List X) (k : ℕ) (y : Y) → slice_get (map f xs) k ≡ Some y → (x : X) × (slice_get xs k ≡ Some x) × (f x ≡ y)
mapped_at f [] k y g = absurd (cc)
mapped_at f (x ∷ xs) zero y g = (x, refl, cc)
mapped_at f (x ∷ xs) (suc k) y g = mapped_at f xs k y g

pub slice_get-set_same : {X : Type 0} (xs : List X) (i : ℕ) (v : X) → i < length xs → slice_get (slice_set xs i v) i ≡ Some v
slice_get-set_same xs i v h = grind (arith, common_steps, gets)

pub slice_get-set_other : {X : Type 0} (xs : List X) (i j : ℕ) (v : X) → j ≢ i → slice_get (slice_set xs i v) j ≡ slice_get xs j
slice_get-set_other xs i j v h = grind (arith, common_steps, gets)

-- An element of two joined lists is in one of the two.
pub in_append : {X : Type 0} (xs ys : List X) (k : ℕ) (a : X) → slice_get (xs ++ ys) k ≡ Some a
    → (slice_get xs k ≡ Some a) ⊎ ((m : ℕ) × (k ≡ length xs + m) × (slice_get ys m ≡ Some a))
in_append [] ys k a g = inr (k, omega arith, g)
in_append (x ∷ xs) ys zero a g = inl g
in_append (x ∷ xs) ys (suc k) a g = elim (in_append xs ys k a g) [ inl h ↦ inl h | inr w ↦ inr (w.0, omega (arith, w.1), w.2) ]

pub append_left : {X : Type 0} (xs ys : List X) (k : ℕ) (a : X) → slice_get xs k ≡ Some a → slice_get (xs ++ ys) k ≡ Some a
append_left xs ys k a g = grind (arith, common_steps, gets)

-- If the element at each index passes a test, `list_all` of the test is true.

pub list_all_from : {X : Type 0} (p : X → Bool) (xs : List X) → ((i : ℕ) (x : X) → slice_get xs i ≡ Some x → p x ≡ true) → list_all p xs ≡ true
list_all_from p [] h = refl
list_all_from p (x ∷ xs) h = rw (h 0 x refl) (list_all_from p xs (λ i y g. h (suc i) y g))

pub list_all_at : {X : Type 0} (p : X → Bool) (xs : List X) (i : ℕ) (x : X) → slice_get xs i ≡ Some x → list_all p xs ≡ true → p x ≡ true
list_all_at p xs i x g h = grind (arith, common_steps, gets)

pub any_none : {X : Type 0} (q : X → Bool) (xs : List X) → ((k : ℕ) (x : X) → slice_get xs k ≡ Some x → q x ≡ false) → list_any q xs ≡ false
any_none q [] h = refl
any_none q (y ∷ ys) h = rw (h 0 y refl) (any_none q ys (λ k x g. h (suc k) x g))

-- filters

-- A filter that no element passes gives the empty list.
pub filter_none : {X : Type 0} (p : X → Bool) (xs : List X) → ((i : ℕ) (x : X) → slice_get xs i ≡ Some x → p x ≡ false) → filter p xs ≡ []
filter_none p [] h = refl
filter_none p (x ∷ xs) h = rw (h 0 x refl) (filter_none p xs (λ i y g. h (suc i) y g))

abbrev pub pick : {X : Type 0} → Bool → X → List X → List X
pick b x xs = if b then x ∷ xs else xs

-- A filter with at most one passing element gives that element or nothing.
pub filter_only : {X : Type 0} (p : X → Bool) (xs : List X) (k : ℕ) (x : X) → slice_get xs k ≡ Some x
    → ((i : ℕ) (y : X) → slice_get xs i ≡ Some y → i ≢ k → p y ≡ false) → filter p xs ≡ pick (p x) x []
filter_only p [] k x g h = absurd (cc)
filter_only p (y ∷ ys) zero x g h = let s : y ≡ x = cc in rw (s, filter_none p ys (λ i z k. h (suc i) z k (λ w. absurd (omega arith)))) refl
filter_only p (y ∷ ys) (suc k) x g h =
    rw (h 0 y refl (λ w. absurd (omega arith))) (filter_only p ys k x g (λ i z r n. h (suc i) z r (λ w. n (omega arith))))

-- An element of a filtered list is in the list, and passes the test.
pub filter_in : {X : Type 0} (p : X → Bool) (xs : List X) (k : ℕ) (a : X) → slice_get (filter p xs) k ≡ Some a
    → (i : ℕ) × (slice_get xs i ≡ Some a) × (p a ≡ true)
filter_in p [] k a g = absurd (cc)
filter_in {X} p (x ∷ xs) k a g = here (p x) refl k g (λ m h. filter_in p xs m a h)
  where
    here : (b : Bool) → p x ≡ b → (m : ℕ) → slice_get (pick b x (filter p xs)) m ≡ Some a
        → ((l : ℕ) → slice_get (filter p xs) l ≡ Some a → (i : ℕ) × (slice_get xs i ≡ Some a) × (p a ≡ true))
        → (i : ℕ) × (slice_get (x ∷ xs) i ≡ Some a) × (p a ≡ true)
    here true e zero h r = (0, h, ap p (sym (same_Some x a h)) ∙ e)
    here true e (suc m) h r = let w = r m h in (suc w.0, w.1, w.2)
    here false e m h r = let w = r m h in (suc w.0, w.1, w.2)

pub filter_alike : {X : Type 0} (p q : X → Bool) (xs : List X) → ((k : ℕ) (x : X) → slice_get xs k ≡ Some x → p x ≡ q x) → filter p xs ≡ filter q xs
filter_alike p q [] h = refl
filter_alike p q (x ∷ xs) h = rw (h 0 x refl, filter_alike p q xs (λ k y g. h (suc k) y g)) refl

-- The filter of the next prefix has one more element if that element passes.
pub take_filter : {X : Type 0} (p : X → Bool) (xs : List X) (k : ℕ) (x : X) → slice_get xs k ≡ Some x
    → filter p (take (k + 1) xs) ≡ filter p (take k xs) ++ pick (p x) x []
take_filter p xs k x g = ap (filter p) (take_snoc xs k x g) ∙ filter-append p (take k xs) (x ∷ [])

-- counts and sums

-- If an element is replaced, the sum changes by the difference of the two values.
pub sum_by-set : {X : Type 0} (f : X → ℕ) (xs : List X) (i : ℕ) (x v : X) → slice_get xs i ≡ Some x → sum_by f (slice_set xs i v) + f x ≡ sum_by f xs + f v
sum_by-set f xs i x v h = grind (arith, common_steps, gets, sums.sum_by-set f xs i v x)

-- If an element is replaced, the count changes by the difference of the two.
pub count_by-set : {X : Type 0} (p : X → Bool) (xs : List X) (i : ℕ) (x v : X) → slice_get xs i ≡ Some x
    → count_by p (slice_set xs i v) + cond (p x) 1 0 ≡ count_by p xs + cond (p v) 1 0
count_by-set p xs i x v h = sum_by-set (λ y. cond (p y) 1 0) xs i x v h

-- If a count is positive, an element passes the test.
pub counted_some : {X : Type 0} (p : X → Bool) (xs : List X) → 0 < count_by p xs → (i : ℕ) × (x : X) × (slice_get xs i ≡ Some x) × (p x ≡ true)
counted_some p xs h =
    let x = within_some (filter p xs) 0 (omega (arith, h, length-filter p xs)) in
    let w = filter_in p xs 0 x.0 x.1 in
    (w.0, x.0, w.1, w.2)

-- If an element passes the test, the count is positive.
pub counted_one : {X : Type 0} (p : X → Bool) (xs : List X) (i : ℕ) (x : X) → slice_get xs i ≡ Some x → p x ≡ true → 0 < count_by p xs
counted_one p xs i x g e = grind (arith, common_steps, gets, get_or-le-sum_by (λ y. cond {A = ℕ} (p y) 1 0) xs i x)

pub counted_two : {X : Type 0} (p : X → Bool) (xs : List X) (i k : ℕ) (x y : X)
    → slice_get xs i ≡ Some x → p x ≡ true → slice_get xs k ≡ Some y → p y ≡ true → i ≢ k → 1 < count_by p xs
counted_two p [] i k x y g e f u d = absurd (cc)
counted_two p (z ∷ zs) zero zero x y g e f u d = absurd (d refl)
counted_two p (z ∷ zs) zero (suc k) x y g e f u d = grind (arith, count-cons p z zs, same_Some z x g, counted_one p zs k y f u)
counted_two p (z ∷ zs) (suc i) zero x y g e f u d = grind (arith, count-cons p z zs, same_Some z y f, counted_one p zs i x g e)
counted_two p (z ∷ zs) (suc i) (suc k) x y g e f u d = omega (arith, count-cons p z zs, counted_two p zs i k x y g e f u (λ q. d (ap suc q)))

-- If no other element passes the test, the count is at most 1.
pub counted_only : {X : Type 0} (p : X → Bool) (xs : List X) (k : ℕ) (x : X) → slice_get xs k ≡ Some x
    → ((i : ℕ) (y : X) → slice_get xs i ≡ Some y → i ≢ k → p y ≡ false) → count_by p xs ≤ 1
counted_only {X} p xs k x g h =
    grind (arith, length-filter p xs, ap (λ (ys : List X). length ys) (filter_only p xs k x g h))

-- If a count is 0, no element passes the test.
pub counted_none : {X : Type 0} (p : X → Bool) (xs : List X) (i : ℕ) (x : X) → count_by p xs ≡ 0 → slice_get xs i ≡ Some x → p x ≡ false
counted_none p xs i x h g = false_from_ne_true (p x) (λ e. omega (arith, h, counted_one p xs i x g e))

-- If a filter gives the empty list, no element passes the test.
pub none_passes : {X : Type 0} (q : X → Bool) (xs : List X) → filter q xs ≡ [] → (k : ℕ) (x : X) → slice_get xs k ≡ Some x → q x ≡ false
none_passes {X} q xs e k x g = counted_none q xs k x (sym (length-filter q xs) ∙ ap (λ (ys : List X). length ys) e) g

-- Two lists that agree at each index have equal counts.
pub count_alike : {X Y : Type 0} (p : X → Bool) (q : Y → Bool) (xs : List X) (ys : List Y) → length xs ≡ length ys
    → ((i : ℕ) (x : X) (y : Y) → slice_get xs i ≡ Some x → slice_get ys i ≡ Some y → p x ≡ q y) → count_by p xs ≡ count_by q ys
count_alike p q [] [] e h = refl
count_alike p q (x ∷ xs) (y ∷ ys) e h =
    grind (arith, count-cons p x xs, count-cons q y ys, h 0 x y refl refl, count_alike p q xs ys (omega arith) (λ i a b g k. h (suc i) a b g k))
count_alike p q xs ys e h = absurd (omega arith)

pub count_by-append : {X : Type 0} (p : X → Bool) (xs ys : List X) → count_by p (xs ++ ys) ≡ count_by p xs + count_by p ys
count_by-append p xs ys = sum_by-append (λ x. cond (p x) 1 0) xs ys
