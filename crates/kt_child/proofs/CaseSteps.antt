-- Lemmas on the children's cases, which no poll changes.
use Rattle.std.proofs.Common.{◌≡◌, ℕ, zero, suc, List, [], ◌∷◌, ◌++◌, Some, map, slice_get, refl, sym, ◌∙◌, ap, drop, remove, take}
use Rattle.kt_child.proofs.Common.{CaseAttempt, Outcome, Ended, RunningChild, ChildrenState, Call, FinishesChild, cases_of, PollsInRounds, child_after_running, children_after_running, last_round, pending_with, whole_round}
use Rattle.std.specs.Option.{option_map}
use Rattle.std.proofs.lemmas.List.{drop-map, map-append, take-map}
use Rattle.std.proofs.lemmas.Option.{slice_get-map}

-- The first part of a round doesn't change the cases.
pub cases_below : (n : ℕ) (ks : List RunningChild) → cases_of (children_after_running n ks) ≡ cases_of ks
cases_below zero ks = refl
cases_below (suc n) [] = refl
cases_below (suc n) (k ∷ ks) = ap (λ t. k.case ∷ t) (cases_below n ks)

-- A round doesn't change the cases.
pub cases_turn : (ks : List RunningChild) → cases_of (map child_after_running ks) ≡ cases_of ks
cases_turn [] = refl
cases_turn (k ∷ ks) = ap (λ t. k.case ∷ t) (cases_turn ks)

-- A wait doesn't change the cases of the children that it polls.
pub cases_waited : (ks : List RunningChild) (calls : List Call) (place : ℕ) (outcome : Outcome) (after : List RunningChild)
    → PollsInRounds ks calls place outcome after → cases_of after ≡ cases_of ks
cases_waited _ _ _ _ _ (last_round ks calls place outcome polled) = cases_below place ks
cases_waited _ _ _ _ _ (whole_round ks after turn more done place outcome all waited) = cases_waited (map child_after_running ks) more place outcome after waited ∙ cases_turn ks

-- Removing the child at an index removes its case.
pub cases_remove : (ks : List RunningChild) (i : ℕ) → cases_of (remove ks i) ≡ remove (cases_of ks) i
cases_remove ks i =
    let f : RunningChild → CaseAttempt = λ k. k.case in
    map-append f (take i ks) (drop (suc i) ks) ∙ (λ j. sym (take-map f i ks) j ++ sym (drop-map f (suc i) ks) j)

-- The case at an index is that of the child at that index.
pub case_at : (ks : List RunningChild) (i : ℕ) (k : RunningChild) → slice_get ks i ≡ Some k → slice_get (cases_of ks) i ≡ Some k.case
case_at ks i k e = slice_get-map (λ (x : RunningChild). x.case) ks i ∙ ap (option_map (λ (x : RunningChild). x.case)) e

-- `Left old calls e new`: a wait with `calls` takes the state `old` to `new`. Its polls end with
-- the finished child at `place`, and the calls after them determine its end `e`.
pub record Left (old : ChildrenState) (calls : List Call) (e : Ended) (new : ChildrenState) : Type 0 where
  pub polls : List Call
  pub rest : List Call
  pub place : ℕ
  pub outcome : Outcome
  pub after : List RunningChild
  pub over : RunningChild
  pub asked : calls ≡ polls ++ rest
  pub waited : PollsInRounds old.children polls place outcome after
  pub there : slice_get after place ≡ Some over
  pub left : FinishesChild over.case rest outcome e
  pub children : new.children ≡ remove after place
  pub pending : new.pending ≡ pending_with over.case old.pending

-- The cases after a wait are those before it, without the case of the finished child.
pub waited_cases : (old new : ChildrenState) (calls : List Call) (e : Ended) (w : Left old calls e new)
    → (cases_of new.children ≡ remove (cases_of old.children) w.place) × (slice_get (cases_of old.children) w.place ≡ Some w.over.case)
waited_cases old new calls e w =
    let same = cases_waited old.children w.polls w.place w.outcome w.after w.waited in (
      ap cases_of w.children ∙ cases_remove w.after w.place ∙ ap (λ t. remove t w.place) same,
      ap (λ t. slice_get t w.place) (sym same) ∙ case_at w.after w.place w.over w.there,
    )
