-- Lemmas on the filters of a command, one by one and together.
use Rattle.std.proofs.Common.{arith, Option, Some, None, Result, Ok, Err, IsErrAnd, find, option_map, option_and_then, slice_get, ◌≡◌, ℕ, suc, ◌<◌, true, false, List, [], ◌∷◌, length, get_or, take, refl, sym, ap, ◌∙◌, subst, ◌⊎◌, inr}
use Rattle.kt_plan.proofs.Common.{FilterRule, err_from_is_err_and, Filter, FilterFault, FindsOverlap, apart, filter_index_of, shared, ParsesFilters, clash, results_of_each, filters_of, cons_result, is_case_missing, right, unnamed, unparsed, IsNoMemoryError, SelectionError}
use Rattle.std.proofs.lemmas.Option.{slice_get_read, slice_get_within}
use Rattle.kt_suite.specs.Disjoint.{IsDisjoint, IsFirstFault, overlaps}
use Rattle.kt_suite.specs.Disjoint as of
use Rattle.kt_plan.specs.declared.selection_error.SelectionError.TheVariants as stop

-- ---- the number of filters

-- A value before others adds one to their number.
length_in_front : {A : Type 0} (m : Result A SelectionError) (rest : Result (List A) SelectionError) (all : List A) (n : ℕ) → cons_result m rest ≡ Ok all → ((more : List A) → rest ≡ Ok more → n ≡ length more) → suc n ≡ length all
length_in_front (Err fault) rest all n e f = absurd (cc)
length_in_front (Ok one) (Err fault) all n e f = absurd (cc)
length_in_front {A} (Ok one) (Ok more) all n e f = let same : one ∷ more ≡ all = cc in ap suc (f more refl) ∙ ap (λ (xs : List A). length xs) same

-- The values of several arguments are as many as the arguments.
pub length_of_each : {A : Type 0} (meaning : List ℕ → Result A SelectionError) (words : List (List ℕ)) (all : List A) → results_of_each meaning words ≡ Ok all → length words ≡ length all
length_of_each {A} meaning [] all e = let same : [] ≡ all = cc in ap (λ (xs : List A). length xs) same
length_of_each meaning (word ∷ words) all e = length_in_front (meaning word) (results_of_each meaning words) all (length words) e (λ more m. length_of_each meaning words more m)

-- ---- the filter that an error names

-- The error of two filters names the position of the later filter.
position_found : (position : ℕ) (filter : Filter) (found : Option Filter) (fault : FilterFault) → option_map (of.clash position filter) found ≡ Some fault → filter_index_of fault ≡ position
position_found position filter None fault e = absurd (cc)
position_found position filter (Some earlier) fault e = let same : of.clash position filter earlier ≡ fault = cc in rw (← same) (grind arith)

-- An error that is found at a position names that position, which is a position of the list.
fault_found : (filters : List Filter) (position : ℕ) (o : Option Filter) (fault : FilterFault) → slice_get filters position ≡ o
    → option_and_then (λ (filter : Filter). option_map (of.clash position filter) (find (overlaps filter) (take position filters))) o ≡ Some fault
    → (filter_index_of fault ≡ position) × (position < length filters)
fault_found filters position None fault g e = absurd (cc)
fault_found filters position (Some filter) fault g e =
    (position_found position filter (find (overlaps filter) (take position filters)) fault e, slice_get_within filters position filter g)

-- An error of several filters names the position of one of them.
pub is_within : (filters : List Filter) (fault : FilterFault) → IsFirstFault filters fault → filter_index_of fault < length filters
is_within filters fault f =
    let w = fault_found filters f.0 (slice_get filters f.0) fault refl f.1 in
    subst (λ (n : ℕ). n < length filters) (sym w.0) w.1

-- An error of several filters names the argument at its position.
pub names_word : (words : List (List ℕ)) (filters : List Filter) (fault : FilterFault) (n : ℕ) (found word : List ℕ) → length words ≡ length filters → IsFirstFault filters fault
    → n ≡ filter_index_of fault → found ≡ get_or words n found → word ≡ found → FindsOverlap words filters (Some (stop.Filter word fault))
names_word words filters fault n found word same f at read copied =
    let p = is_within filters fault f in
    let q : n < length words = subst (λ (k : ℕ). k < length words) (sym at) (subst (λ (k : ℕ). filter_index_of fault < k) (sym same) p) in
    let e : n ≡ f.0 = at ∙ (fault_found filters f.0 (slice_get filters f.0) fault refl f.1).0 in
    let s : slice_get words n ≡ Some found = slice_get_read words (length words) n found refl q read in
    shared word fault (record {
      position = f.0;
      at = f.1;
      first = f.2;
      named = ap (λ (k : ℕ). slice_get words k) (sym e) ∙ s ∙ ap (λ (w : List ℕ). Some w) (sym copied);
    })

-- ---- the filters of a command

module _ (rule : FilterRule) (words : List (List ℕ)) where
  -- `Reads result`: `result` has the filters of the arguments, is their first error as
  -- `ParsesFilters` says, or is the error of a failed allocation.
  abbrev pub Reads : Result (List Filter) SelectionError → Type 0
  Reads result = IsErrAnd result IsNoMemoryError ⊎ ParsesFilters rule words result

  -- An argument that is not a filter ends the read of the filters.
  pub not_parsed : (result : Result (List Filter) SelectionError) (fault : SelectionError) → IsErrAnd result (λ e. e ≡ fault) → filters_of words ≡ Err fault → Reads result
  not_parsed result fault r e =
      let p = err_from_is_err_and result r in
      subst (λ (o : Result (List Filter) SelectionError). Reads o) (sym (p.1 ∙ ap (λ (x : SelectionError). Err x) p.2)) (inr (unparsed fault e))

  -- Two filters that select the same case end the read of the filters.
  pub not_apart : (filters : List Filter) (fault : SelectionError) → filters_of words ≡ Ok filters → FindsOverlap words filters (Some fault) → Reads (Err fault)
  not_apart filters fault e (shared word cause c) = inr (clash filters word cause e c)

  -- Filters without an error of several filters are disjoint.
  is_apart : (filters : List Filter) (found : Option SelectionError) → ((fault : SelectionError) → found ≡ Some fault → ⊥) → FindsOverlap words filters found → IsDisjoint filters
  is_apart filters None n (apart d) = d
  is_apart filters (Some fault) n t = absurd (n fault refl)

  -- Filters without exactly one that names a case end the read with `NeedsCase`.
  pub not_one_case : (filters : List Filter) (found : Option SelectionError) → filters_of words ≡ Ok filters → ((fault : SelectionError) → found ≡ Some fault → ⊥) → FindsOverlap words filters found
      → true ≡ is_case_missing rule filters → Reads (Err stop.NeedsCase)
  not_one_case filters found e n t l = inr (unnamed filters e (is_apart filters found n t) (sym l))

  -- Disjoint filters that `rule` accepts are the result.
  pub all_right : (filters : List Filter) (found : Option SelectionError) → filters_of words ≡ Ok filters → ((fault : SelectionError) → found ≡ Some fault → ⊥) → FindsOverlap words filters found
      → false ≡ is_case_missing rule filters → Reads (Ok filters)
  all_right filters found e n t l = inr (right filters e (is_apart filters found n t) (sym l))
