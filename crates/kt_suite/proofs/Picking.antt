-- The filters that remain unmatched after all items.
use Rattle.std.proofs.Common.{◌≡◌, ℕ, ◌+◌, suc, Bool, true, false, List, [], ◌∷◌, ◌++◌, refl, sym, ap, ◌∙◌, arith, length, slice_get, Option, ◌||◌, not}
use Rattle.kt_suite.proofs.Common.{append_assoc, list_any, filter, Filter, Item, all_positions, is_match, is_miss, matches_item, option_map_or, passing_positions, is_unmatched, unmatched_positions}

-- `is_unmatched_at items filters place`: the filter at the position `place` in the list `filters`
-- matches none of the items `items`.
abbrev pub is_unmatched_at : List Item → List Filter → ℕ → Bool
is_unmatched_at items filters place = not (list_any (λ item. is_match filters item place) items)

-- ---- filters by tests

-- A filter by a test that each element passes removes no element.
pub kept_all : {A : Type 0} (test : A → Bool) → ((x : A) → test x ≡ true) → (xs : List A) → filter test xs ≡ xs
kept_all test h [] = refl
kept_all test h (x ∷ xs) = rw (h x) (ap (λ (ys : List _). x ∷ ys) (kept_all test h xs))

-- Removing what passes either of two tests is removing what passes the first, then the second.
pub kept_both : {A : Type 0} (first second : A → Bool) (xs : List A)
    → filter (λ x. not (first x || second x)) xs ≡ filter (λ x. not (second x)) (filter (λ x. not (first x)) xs)
kept_both first second [] = refl
kept_both first second (x ∷ xs) = grind (arith, kept_both first second xs)

-- ---- positions

next_place : (n k : ℕ) → (n + 1) + k ≡ n + suc k
next_place n k = omega arith

-- Appending a position that passes leaves the final positions unchanged.
pub place_taken : (test : Item → Bool) (n : ℕ) (items : List Item) (item : Item) (after : List Item) (old new all : List ℕ) → items ≡ item ∷ after → true ≡ test item → new ≡ old ++ n ∷ []
    → old ++ passing_positions test n items ≡ all → new ++ passing_positions test (n + 1) after ≡ all
place_taken test n items item after old new all e t h w = rw (h, append_assoc) (rw (e, ← t) at w)

-- Skipping a position that does not pass leaves the final positions unchanged.
pub place_passed : (test : Item → Bool) (n : ℕ) (items : List Item) (item : Item) (after : List Item) (old new all : List ℕ) → items ≡ item ∷ after → false ≡ test item → new ≡ old
    → old ++ passing_positions test n items ≡ all → new ++ passing_positions test (n + 1) after ≡ all
place_passed test n items item after old new all e t h w = rw h (rw (e, ← t) at w)

-- ---- the filters that match no item

-- The unmatched filters among the filters from a position on.
unmatched_from : (items : List Item) (all : List Filter) (n : ℕ) (filters : List Filter) → ((k : ℕ) → slice_get all (n + k) ≡ slice_get filters k)
    → filter (is_unmatched_at items all) (passing_positions (λ f. true) n filters) ≡ passing_positions (is_unmatched items) n filters
unmatched_from items all n [] at = refl
unmatched_from items all n (f ∷ rest) at =
    let same : n ≡ n + 0 = omega arith in
    let here : is_unmatched_at items all n ≡ is_unmatched items f = ap (λ (o : Option Filter). not (list_any (λ item. option_map_or (matches_item item) o false) items)) (ap (slice_get all) same ∙ at 0) in
    let later = unmatched_from items all (n + 1) rest (λ k. ap (λ (p : ℕ). slice_get all p) (next_place n k) ∙ at (suc k)) in
    rw (here, later) refl

-- The filters that no item of `items` matches by position are the unmatched filters.
pub unmatched_of_all : (items : List Item) (filters : List Filter) (all : List ℕ) → all ≡ all_positions filters → filter (is_unmatched_at items filters) all ≡ unmatched_positions items filters
unmatched_of_all items filters all e =
    ap (λ (ps : List ℕ). filter (is_unmatched_at items filters) ps) e
    ∙ unmatched_from items filters 0 filters (λ k. ap (λ (p : ℕ). slice_get filters p) (let z : 0 + k ≡ k = omega arith in z))

-- Removing the matches of one item, then of the items after it, removes the matches of all items.
pub unmatched_after : (items : List Item) (filters : List Filter) (item : Item) (after : List Item) (unmatched left wanted : List ℕ) → items ≡ item ∷ after
    → left ≡ filter (is_miss filters item) unmatched → filter (is_unmatched_at items filters) unmatched ≡ wanted → filter (is_unmatched_at after filters) left ≡ wanted
unmatched_after items filters item after unmatched left wanted e l w =
    rw l (sym (kept_both (is_match filters item) (λ place. list_any (λ x. is_match filters x place) after) unmatched) ∙ (rw e at w))

left_by_none : (items : List Item) (filters : List Filter) → length items ≡ 0 → (place : ℕ) → is_unmatched_at items filters place ≡ true
left_by_none [] filters e place = refl
left_by_none (item ∷ items) filters e place = absurd (let z : length (item ∷ items) ≡ 0 = e in omega (arith, z))

-- Without items, no filter is removed.
pub unmatched_at_last : (items : List Item) (filters : List Filter) (unmatched : List ℕ) → length items ≡ 0 → unmatched ≡ filter (is_unmatched_at items filters) unmatched
unmatched_at_last items filters unmatched e = sym (kept_all (is_unmatched_at items filters) (left_by_none items filters e) unmatched)
