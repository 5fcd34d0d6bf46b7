-- Runs that are found and changed by number.
use Rattle.kt_store.proofs.Common.{AllByRecursion, AreNumbered, AreValidRuns, Bool, Entry, IsValidRun, List, None, Option, Row, Run, RunHead, Some, [], all-slice_get, ap, arith, cond, false, find, finish, head_at, head_of, insert_by_position, length, length-map, map, nat_tests, option_map, refl, run_at, run_row, slice_get, subst, suc, sym, true, unwrap_or, with_entry, zero, ℕ, ◌+◌, ◌<◌, ◌==◌, ◌∙◌, ◌∷◌, ◌≡◌}

pub number_at : (from k : ℕ) (runs : List Run) (r : Run) → AreNumbered from runs → slice_get runs k ≡ Some r → r.number ≡ from + k
number_at from k [] r h there = absurd cc
number_at from zero (x ∷ runs) r h there = let same : x ≡ r = cc in ap (λ (y : Run). y.number) (sym same) ∙ omega (arith, h.0)
number_at from (suc k) (x ∷ runs) r h there = number_at (suc from) k runs r h.1 there ∙ omega arith

-- a fact about the row of each run above number `n` holds for the rows of runs numbered from above
-- `n`
pub all_above : (P : Row → Type 0) (n from : ℕ) (runs : List Run) → ((r : Run) → n < r.number → P (run_row r)) → AreNumbered from runs → n < from → AllByRecursion P (map run_row runs)
all_above P n from [] each h low = tt
all_above P n from (r ∷ runs) each h low = (each r (omega (arith, h.0, low)), all_above P n (suc from) runs each h.1 (omega (arith, low)))

pub run_of : (run : ℕ) (runs : List Run) (r : Run) → AreValidRuns runs → run_at runs run ≡ Some r → IsValidRun r
run_of zero runs r valid there = absurd cc
run_of (suc k) runs r valid there = all-slice_get IsValidRun runs k r there valid.each

-- no run has a number below that of the first run
none_before : (n from : ℕ) (runs : List Run) → AreNumbered from runs → n < from → find (λ (r : Run). r.number == n) runs ≡ None
none_before n from [] h low = refl
none_before n from (r ∷ runs) h low =
    let apart : (r.number == n) ≡ false = grind (arith, nat_tests, h.0, low) in
    rw apart (none_before n (suc from) runs h.1 (omega (arith, low)))

found_from : (n from k : ℕ) (runs : List Run) → AreNumbered from runs → n ≡ from + k → find (λ (r : Run). r.number == n) runs ≡ slice_get runs k
found_from n from k [] h is = refl
found_from n from zero (r ∷ runs) h is = let same : (r.number == n) ≡ true = grind (arith, nat_tests, h.0, is) in rw same refl
found_from n from (suc k) (r ∷ runs) h is =
    let apart : (r.number == n) ≡ false = grind (arith, nat_tests, h.0, is) in
    rw apart (found_from n (suc from) k runs h.1 (omega (arith, is)))

-- the first run with a number is the run at this number minus 1
pub run_found : (n : ℕ) (runs : List Run) → AreNumbered 1 runs → find (λ (r : Run). r.number == n) runs ≡ run_at runs n
run_found zero runs h = none_before zero 1 runs h (omega arith)
run_found (suc k) runs h = found_from (suc k) 1 k runs h (omega arith)

head_of_found : (n : ℕ) (runs : List Run) → find (λ (head : RunHead). head.number == n) (map head_of runs) ≡ option_map head_of (find (λ (r : Run). r.number == n) runs)
head_of_found n [] = refl
head_of_found n (r ∷ runs) = go (r.number == n) (head_of_found n runs)
  where
    go : (b : Bool) → find (λ (head : RunHead). head.number == n) (map head_of runs) ≡ option_map head_of (find (λ (r : Run). r.number == n) runs)
        → cond b (Some (head_of r)) (find (λ (head : RunHead). head.number == n) (map head_of runs)) ≡ option_map head_of (cond b (Some r) (find (λ (r : Run). r.number == n) runs))
    go true more = refl
    go false more = more

-- the first head with a requested number is the head of this run
pub head_found : (number : Option ℕ) (runs : List Run) (heads : List RunHead) → AreNumbered 1 runs → heads ≡ map head_of runs
    → find (λ (head : RunHead). head.number == unwrap_or number (length heads)) heads ≡ head_at runs number
head_found number runs heads h are =
    subst (λ (hs : List RunHead). find (λ (head : RunHead). head.number == unwrap_or number (length hs)) hs ≡ head_at runs number) (sym are)
    (ap (λ (n : ℕ). find (λ (head : RunHead). head.number == unwrap_or number n) (map head_of runs)) (length-map runs head_of)
    ∙ head_of_found (unwrap_or number (length runs)) runs
    ∙ ap (option_map head_of) (run_found (unwrap_or number (length runs)) runs h))

-- ---- lists of runs in which the run with number `n` is changed by `f`

module _ (n : ℕ) (f : Run → Run) (changed : List Run → List Run) (nil : changed [] ≡ []) (cons : (r : Run) (rs : List Run) → changed (r ∷ rs) ≡ cond (r.number == n) (f r ∷ rs) (r ∷ changed rs)) where
  -- a function of the list that ignores the change of a run has the same result after the change
  unseen : {X : Type 0} (F : List Run → X) (G : Run → X → X) → ((r : Run) (rs : List Run) → F (r ∷ rs) ≡ G r (F rs)) → ((r : Run) (x : X) → G (f r) x ≡ G r x) → (runs : List Run) → F (changed runs) ≡ F runs
  unseen F G is same [] = ap F nil
  unseen F G is same (r ∷ runs) = ap F (cons r runs) ∙ go (r.number == n) (unseen F G is same runs) ∙ sym (is r runs)
    where
      go : (b : Bool) → F (changed runs) ≡ F runs → F (cond b (f r ∷ runs) (r ∷ changed runs)) ≡ G r (F runs)
      go true more = is (f r) runs ∙ same r (F runs)
      go false more = is r (changed runs) ∙ ap (G r) more

  -- a fact about each run and about the changed run holds for each run after the change
  each : (P : Run → Type 0) (from k : ℕ) (runs : List Run) (r : Run) → n ≡ from + k → AreNumbered from runs → AllByRecursion P runs → slice_get runs k ≡ Some r → P (f r) → AllByRecursion P (changed runs)
  each P from k [] r is h all there new = absurd cc
  each P from zero (x ∷ runs) r is h all there new =
      let same : x ≡ r = cc in
      let number : (x.number == n) ≡ true = grind (arith, nat_tests, h.0, is) in
      subst (AllByRecursion P) (sym (cons x runs)) (rw number (subst (λ (y : Run). P (f y)) (sym same) new, all.1))
  each P from (suc k) (x ∷ runs) r is h all there new =
      let apart : (x.number == n) ≡ false = grind (arith, nat_tests, h.0, is) in
      subst (AllByRecursion P) (sym (cons x runs)) (rw apart (all.0, each P (suc from) k runs r (omega (arith, is)) h.1 all.1 there new))

module _ {X : Type 0} (F : List Run → X) (G : Run → X → X) (is : (r : Run) (rs : List Run) → F (r ∷ rs) ≡ G r (F rs)) where
  pub entry_unseen : (run : ℕ) (e : Entry) → ((r : Run) (x : X) → G (record r { entries = insert_by_position e r.entries }) x ≡ G r x) → (runs : List Run) → F (with_entry run e runs) ≡ F runs
  entry_unseen run e = unseen run (λ (r : Run). record r { entries = insert_by_position e r.entries }) (with_entry run e) refl (λ r rs. refl) F G is

  pub finish_unseen : (run : ℕ) → ((r : Run) (x : X) → G (record r { finished = true }) x ≡ G r x) → (runs : List Run) → F (finish run runs) ≡ F runs
  finish_unseen run = unseen run (λ (r : Run). record r { finished = true }) (finish run) refl (λ r rs. refl) F G is

module _ (P : Run → Type 0) (k : ℕ) (runs : List Run) (r : Run) (h : AreNumbered 1 runs) (all : AllByRecursion P runs) (there : slice_get runs k ≡ Some r) where
  pub entry_each : (e : Entry) → P (record r { entries = insert_by_position e r.entries }) → AllByRecursion P (with_entry (suc k) e runs)
  entry_each e = each (suc k) (λ (x : Run). record x { entries = insert_by_position e x.entries }) (with_entry (suc k) e) refl (λ r rs. refl) P 1 k runs r (omega arith) h all there

  pub finish_each : P (record r { finished = true }) → AllByRecursion P (finish (suc k) runs)
  finish_each = each (suc k) (λ (x : Run). record x { finished = true }) (finish (suc k)) refl (λ r rs. refl) P 1 k runs r (omega arith) h all there
