-- The first filter that matches an item.
use Rattle.std.proofs.Common.{◌≡◌, ℕ, ◌<◌, ◌≤◌, Bool, true, false, List, [], ◌∷◌, refl, sym, ap, ◌∙◌, arith, length, get_or, Option, Some, None, rules, ◌==◌, nat_eq, not, inl, inr}
use Rattle.kt_suite.proofs.Common.{filter, Filter, Item, first_match, is_match, is_miss, matches_item, is_selected, option_map_or}
use Rattle.std.specs.List.{list_any, position, position_or_len}
use Rattle.std.proofs.lemmas.Bool.{cases_lt}
use Rattle.std.proofs.lemmas.Grind.{common_steps}
use Rattle.std.proofs.lemmas.List.Elements.{All-from_get_or}
use Rattle.std.proofs.lemmas.List.Folds.{list_any_at, list_any_none}
use Rattle.std.proofs.lemmas.List.Quantifiers.{position-Some}
use Rattle.std.proofs.lemmas.List.Sums.{fails_before_first}
use Rattle.std.proofs.lemmas.Option.{slice_get-get_or, slice_get_past}
use Rattle.kt_suite.proofs.Picking.{kept_all}

no_position : (test : Filter → Bool) (filters : List Filter) → position test filters ≡ None → length filters ≤ position_or_len test filters
no_position test filters e = grind (arith, common_steps)

match_at : (item : Item) (filters : List Filter) (k : ℕ) (d : Filter) → k < length filters
    → is_match filters item k ≡ matches_item item (get_or filters k d)
match_at item filters k d l = ap (λ (o : Option Filter). option_map_or (matches_item item) o false) (slice_get-get_or filters k d l)

-- Without a first match, no filter matches.
none_match : (item : Item) (filters : List Filter) → first_match filters item ≡ None
    → (list_any (matches_item item) filters ≡ false) × ((k : ℕ) → is_match filters item k ≡ false)
none_match item [] e = (refl, λ k. refl)
none_match item (f ∷ fs) e =
    let past = no_position (matches_item item) (f ∷ fs) e in
    let each : (k : ℕ) → k < length (f ∷ fs)
    → matches_item item (get_or (f ∷ fs) k f) ≡ false = λ k l. fails_before_first (matches_item item) (f ∷ fs) k f (omega (arith, past, l)) in (
      list_any_none (matches_item item) (f ∷ fs) (All-from_get_or (λ x. matches_item item x ≡ false) (f ∷ fs) f each),
      λ k. elim (cases_lt k (length (f ∷ fs))) [ inl l ↦ match_at item (f ∷ fs) k f l ∙ each k l | inr l ↦ ap (λ (o : Option Filter). option_map_or (matches_item item) o false) (slice_get_past (f ∷ fs) k l) ],
    )

-- The first match matches, and no filter before it matches.
first_matches : (item : Item) (filters : List Filter) (first : ℕ) → first_match filters item ≡ Some first
    → (is_match filters item first ≡ true) × ((k : ℕ) → k < first → is_match filters item k ≡ false) × (list_any (matches_item item) filters ≡ true)
first_matches item [] first e = absurd (let z : None ≡ Some first = e in cc)
first_matches item (f ∷ fs) first e =
    let p = position-Some (matches_item item) (f ∷ fs) first f e in (
      match_at item (f ∷ fs) first f p.0 ∙ p.1,
      λ k l. match_at item (f ∷ fs) k f (omega (arith, l, p.0)) ∙ p.2 k l,
      list_any_at (matches_item item) (f ∷ fs) first f p.0 p.1,
    )

selected_without : (filters : List Filter) (item : Item) → list_any (matches_item item) filters ≡ false → (length filters == 0) ≡ is_selected filters item
selected_without [] item e = refl
selected_without (f ∷ fs) item e = (let z : (length (f ∷ fs) == 0) ≡ false = search rules in z) ∙ sym e

-- Without a first match, an item is selected only without filters, and all filters stay unmatched.
pub no_match : (filters : List Filter) (item : Item) (unmatched : List ℕ) → first_match filters item ≡ None
    → ((length filters == 0) ≡ is_selected filters item) × (unmatched ≡ filter (is_miss filters item) unmatched)
no_match filters item unmatched e =
    let none = none_match item filters e in
    (selected_without filters item none.0, sym (kept_all (is_miss filters item) (λ k. ap not (none.1 k)) unmatched))

-- A filter before the first match does not match the item.
pub misses_before : (filters : List Filter) (item : Item) (first place : ℕ) → place < first → first_match filters item ≡ Some first → true ≡ is_miss filters item place
misses_before filters item first place b e = sym (ap not ((first_matches item filters first e).1 place b))

-- The first match is not a miss.
pub matches_first : (filters : List Filter) (item : Item) (first place : ℕ) → place ≡ first → first_match filters item ≡ Some first
    → not (nat_eq place first) ≡ is_miss filters item place
matches_first filters item first place p e =
    let same : nat_eq place first ≡ true = search rules in
    ap not (same ∙ sym (ap (is_match filters item) p ∙ (first_matches item filters first e).0))

selected_if : (filters : List Filter) (item : Item) → list_any (matches_item item) filters ≡ true → is_selected filters item ≡ true
selected_if [] item e = refl
selected_if (f ∷ fs) item e = e

-- An item with a first match is selected.
pub selected_with : (filters : List Filter) (item : Item) (first : ℕ) → first_match filters item ≡ Some first → true ≡ is_selected filters item
selected_with filters item first e = sym (selected_if filters item (first_matches item filters first e).2)
