-- Lemmas on the selection of cases by their indexes.
use Rattle.std.proofs.Common.{Bool, false, true, ◌≡◌, ℕ, ◌+◌, ◌≤◌, List, [], ◌∷◌, ◌++◌, sym, ◌∙◌, arith, append_assoc, map}
use Rattle.kt_plan.proofs.Common.{common_steps, Filter, passing_positions, is_selected, Candidate, item_of, selected_cases, selected_indexes}
use Rattle.kt_suite.specs.declared.selecting.Item.{Item}

-- The first index of a selection is at least the index of its first item.
no_earlier : (test : Item → Bool) (n : ℕ) (items : List Item) (m : ℕ) (ms : List ℕ) → passing_positions test n items ≡ m ∷ ms → n ≤ m
no_earlier test n [] m ms e = absurd (cc)
no_earlier test n (item ∷ items) m ms e = grind (arith, no_earlier test (n + 1) items m ms)

module _ (filters : List Filter) (candidate : Candidate) (rest : List Candidate) (place : ℕ) where
  -- `after`: the indexes of the selected cases after the current one.
  abbrev after : List ℕ
  after = selected_indexes filters (place + 1) rest

  -- `Keeps old new left`: the step for the current candidate changes the selected cases from `old`
  -- to `new`, and leaves the indexes `left` for the cases after it.
  abbrev pub Keeps : List Candidate → List Candidate → List ℕ → Type 0
  Keeps old new left = (left ≡ after) × (new ++ selected_cases filters rest ≡ old ++ selected_cases filters (candidate ∷ rest))

  -- A case whose index is the next selected index is appended.
  pub picked : (cases new : List Candidate) (now others : List ℕ) → now ≡ place ∷ others → new ≡ cases ++ candidate ∷ [] → now ≡ selected_indexes filters place (candidate ∷ rest) → Keeps cases new others
  picked cases new now others is grown h =
      let same : place ∷ others ≡ selected_indexes filters place (candidate ∷ rest) = sym is ∙ h in
      let later = no_earlier (is_selected filters) (place + 1) (map item_of rest) place others in
      let selected : is_selected filters (item_of candidate) ≡ true = grind (arith, later) in
      (grind (arith, later), grind (arith, common_steps, append_assoc cases (candidate ∷ []) (selected_cases filters rest)))

  -- A case whose index is not the next selected index is dropped.
  pub passed : (cases : List Candidate) (now : List ℕ) → ((others : List ℕ) → now ≡ place ∷ others → ⊥) → now ≡ selected_indexes filters place (candidate ∷ rest) → Keeps cases cases now
  passed cases now other h =
      let left_out : is_selected filters (item_of candidate) ≡ false = grind (arith, other after) in
      (grind (arith, other after), grind (arith, common_steps))
