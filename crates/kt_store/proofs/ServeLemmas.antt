-- The calls of a store over the tables of a database obey `Serves`, also for crashes.
use Rattle.kt_store.proofs.Common.{Agrees, Began, Changes, Entry, Err, Finished, Ghosts, HasCleanDisk, Held, IfErr, IfOk, IsErrAnd, IsDatabaseFault, IsSchema2Of, IsSchema2OfOne, KeepsRuns, Leaves, List, OnlyReadsRuns, MayChange, Ok, OnErr, OnOk, SurvivesCrash, Put, Reads, Result, Run, Serves, StandsFor, State, StoreCall, StoreFault, Survives, Trees, [], arith, runs_after, finish, inl, inr, new_run, refl, results_spec, state, subst, survives_then, survives_weaker, sym, with_entry, ℕ, ◌++◌, ◌∷◌, ◌≡◌}
use Rattle.kt_store.proofs.AskLemmas.{was_clean}
use Rattle.kt_store.proofs.Numbered.{numbers_changed, ordered_changed}

-- a call that may commit `change` adds `change` to the runs that a crash may leave
pub survived : (old new : State) (change runs : List Run) (may : List (List Run)) → Survives old new (IsSchema2Of change) → Leaves old (IsSchema2OfOne (runs ∷ may)) → Leaves new (IsSchema2OfOne (runs ∷ change ∷ may))
survived old new change runs may s l clean trees h = elim (s.crash clean trees h) [
  | inl m ↦ elim (l (omega (arith, clean, s.clean)) trees m) [ inl k ↦ inl k | inr k ↦ inr (inr k) ]
  | inr k ↦ inr (inl k)
]

-- `IsWrite LeavesOne call change`: a successful `call` changes runs by `change`, a failed one
-- changes nothing, and a crash leaves the runs that `SurvivesCrash LeavesOne` states
pub record IsWrite {R : Type 0} (LeavesOne : R → List (List Run) → Type 0) {T : Type 0} (call : Result T StoreFault → StoreCall) (change : List Run → List Run) : Type 0 where
  pub done : (x : T) (runs : List Run) → runs_after (call (Ok x)) runs ≡ change runs
  pub refused : (e : StoreFault) (runs : List Run) → runs_after (call (Err e)) runs ≡ runs
  pub fails : (e : StoreFault) (runs : List Run) → IsDatabaseFault e → Agrees runs (call (Err e))
  pub lasts : (x : T) (runs : List Run) (may : List (List Run)) (old new : R) → LeavesOne new (change runs ∷ []) → SurvivesCrash LeavesOne (call (Ok x)) runs may old new
  pub survives : (e : StoreFault) (runs : List Run) (may : List (List Run)) (old new : R) → (LeavesOne old (runs ∷ may) → LeavesOne new (runs ∷ change runs ∷ may)) → SurvivesCrash LeavesOne (call (Err e)) runs may old new

module _ {R : Type 0} (LeavesOne : R → List (List Run) → Type 0) where
  pub begin_writes : (total moment : ℕ) → IsWrite LeavesOne (λ r. Began total moment r) (λ runs. runs ++ new_run runs total moment ∷ [])
  begin_writes total moment = record { done = λ x runs. refl; refused = λ e runs. refl; fails = λ e runs failed. inl failed; lasts = λ x runs may old new h. h; survives = λ e runs may old new h. h }

  pub put_writes : (number : ℕ) (e : Entry) → IsWrite LeavesOne (λ r. Put number e r) (with_entry number e)
  put_writes number e = record { done = λ x runs. refl; refused = λ e runs. refl; fails = λ e runs failed. inl failed; lasts = λ x runs may old new h. h; survives = λ e runs may old new h. h }

  pub finish_writes : (number : ℕ) → IsWrite LeavesOne (λ r. Finished number r) (finish number)
  finish_writes number = record { done = λ x runs. refl; refused = λ e runs. refl; fails = λ e runs failed. inl failed; lasts = λ x runs may old new h. h; survives = λ e runs may old new h. h }

-- ---- the calls of a store over the tables of a database obey `Serves`

-- if a crash in each state leaves one of any lists, each call obeys `SurvivesCrash`
pub always_outlasts : {R : Type 0} (Leaves : R → List (List Run) → Type 0) → ((s : R) (may : List (List Run)) → Leaves s may) → (call : StoreCall) (runs : List Run) (may : List (List Run)) (old new : R) → SurvivesCrash Leaves call runs may old new
always_outlasts Leaves h (Began total moment (Ok number)) runs may old new = h new _
always_outlasts Leaves h (Put number e (Ok done)) runs may old new = h new _
always_outlasts Leaves h (Finished number (Ok done)) runs may old new = h new _
always_outlasts Leaves h _ runs may old new = λ _. h new _

-- a state survives without a call: a crash leaves what it left before
pub survives_self : (s : State) → Survives s s (λ (db : Trees). ⊥)
survives_self s = record { clean = omega arith; shield = λ h. h; counts = omega arith; limit = refl; closes = λ clean opened. inl opened; crash = λ clean db may. inl may }

-- a call obeys `Serves` if the tables represent the changed runs after it, and its result agrees
-- with the runs before
serves : {S : Type 0} (g : Ghosts S) (call : StoreCall) (old new : Held S) → ((runs : List Run) → StandsFor (state g old) runs → StandsFor (state g new) (runs_after call runs))
    → ((runs : List Run) → StandsFor (state g old) runs → HasCleanDisk (state g new) → HasCleanDisk (state g old)) → ((runs : List Run) → StandsFor (state g old) runs → HasCleanDisk (state g new) → Agrees runs call)
    → ((runs : List Run) (may : List (List Run)) → StandsFor (state g old) runs → SurvivesCrash (λ s more. Leaves (state g s) (IsSchema2OfOne more)) call runs may old new) → Serves (results_spec g) call old new
serves g call old new stands earlier agrees crash = record {
  asked = tt;
  stands = λ runs h. (stands runs h.0, numbers_changed call runs h.1, λ clean. ordered_changed call runs h.1 (h.2 (earlier runs h.0 clean)) (agrees runs h.0 clean));
  earlier = λ runs h clean. earlier runs h.0 clean;
  agrees = λ runs h clean. agrees runs h.0 clean;
  crash = λ runs may h. crash runs may h.0;
}

module _ {S : Type 0} (g : Ghosts S) where
  -- a call that returns the fault of one of its steps obeys `Serves` if the step's fault does
  pub failed_at : {T : Type 0} (call : Result T StoreFault → StoreCall) (inside now new : Held S) → inside ≡ now → (r : Result T StoreFault) (e : StoreFault) → IsErrAnd r (λ x. x ≡ e)
      → Serves (results_spec g) (call (Err e)) inside new → Serves (results_spec g) (call r) now new
  failed_at call inside now new is (Ok x) e h s = absurd h
  failed_at call inside now new is (Err fault) e h s = subst (λ o. Serves (results_spec g) (call (Err fault)) o new) is (subst (λ f. Serves (results_spec g) (call (Err f)) inside new) (sym h) s)

  -- a call that returns the fault of one of its steps obeys `Serves` if each fault with the
  -- property `P` does
  pub troubled_at : {T : Type 0} {P : StoreFault → Type 0} (call : Result T StoreFault → StoreCall) (inside now new : Held S) → inside ≡ now → (r : Result T StoreFault) → IsErrAnd r P
      → ((e : StoreFault) → P e → Serves (results_spec g) (call (Err e)) inside new) → Serves (results_spec g) (call r) now new
  troubled_at call inside now new is (Ok x) h each = absurd h
  troubled_at call inside now new is (Err fault) h each = subst (λ o. Serves (results_spec g) (call (Err fault)) o new) is (each fault h)

  pub seen_at : (call : StoreCall) (inside now new : Held S) → inside ≡ now → Serves (results_spec g) call inside new → Serves (results_spec g) call now new
  seen_at call inside now new is s = subst (λ o. Serves (results_spec g) call o new) is s

-- a call that only reads obeys `Serves` if its result agrees with the runs
pub reads_serve : {S : Type 0} (g : Ghosts S) (call : StoreCall) (old new : Held S) → Reads (results_spec g) old new → ((runs : List Run) → runs_after call runs ≡ runs)
    → ((runs : List Run) (may : List (List Run)) → ((results_spec g).leaves old may → (results_spec g).leaves new may) → SurvivesCrash (results_spec g).leaves call runs may old new)
    → ((runs : List Run) → (results_spec g).stands old runs → HasCleanDisk (state g new) → Agrees runs call) → Serves (results_spec g) call old new
reads_serve g call old new reads same lasts why = record {
  asked = tt;
  stands = λ runs h. subst ((results_spec g).stands new) (sym (same runs)) (reads.stands runs h);
  earlier = reads.earlier;
  agrees = why;
  crash = λ runs may h. lasts runs may (reads.crash runs may h);
}

-- calls whose first step only reads
module _ {S : Type 0} (g : Ghosts S) (old new : Held S) (looked : OnlyReadsRuns g old new) where
  unwritten : (change runs : List Run) (may : List (List Run)) → StandsFor (state g old) runs → Leaves (state g old) (IsSchema2OfOne (runs ∷ may)) → Leaves (state g new) (IsSchema2OfOne (runs ∷ change ∷ may))
  unwritten change runs may has left =
      survived (state g old) (state g new) change runs may (survives_weaker (state g old) (state g new) (λ _. ⊥) (IsSchema2Of change) (λ _ db none. absurd none) (looked.crash runs has)) left

module _ {S : Type 0} (g : Ghosts S) {T : Type 0} (call : Result T StoreFault → StoreCall) (change : List Run → List Run) (is : IsWrite (results_spec g).leaves call change) where
  -- a call that fails before it writes obeys `Serves`
  pub write_refused : (old new : Held S) (looked : OnlyReadsRuns g old new) (e : StoreFault) → ((runs : List Run) → StandsFor (state g old) runs → HasCleanDisk (state g new) → Agrees runs (call (Err e))) → Serves (results_spec g) (call (Err e)) old new
  write_refused old new looked e why =
      serves g (call (Err e)) old new (λ runs has. subst (StandsFor (state g new)) (sym (is.refused e runs)) (looked.stands runs has)) (was_clean looked) why
      (λ runs may has. is.survives e runs may old new (unwritten g old new looked (change runs) runs may has))

  -- a call whose first step reads, and whose second step writes
  module _ (old mid new : Held S) (looked : OnlyReadsRuns g old mid) (Allowed : List Run → Type 0) (allowed : (runs : List Run) → StandsFor (state g old) runs → HasCleanDisk (state g mid) → Allowed runs) (may_change : MayChange g mid new Allowed change) where
    second : (runs : List Run) → StandsFor (state g old) runs → Survives (state g mid) (state g new) (IsSchema2Of (change runs))
    second runs has = may_change runs (looked.stands runs has) (allowed runs has)

    mid_clean : (runs : List Run) → StandsFor (state g old) runs → HasCleanDisk (state g new) → HasCleanDisk (state g mid)
    mid_clean runs has clean = omega (arith, clean, (second runs has).clean)

    old_clean : (runs : List Run) → StandsFor (state g old) runs → HasCleanDisk (state g new) → HasCleanDisk (state g old)
    old_clean runs has clean = was_clean looked runs has (mid_clean runs has clean)

    written : (runs : List Run) (may : List (List Run)) → StandsFor (state g old) runs → Leaves (state g old) (IsSchema2OfOne (runs ∷ may)) → Leaves (state g new) (IsSchema2OfOne (runs ∷ change runs ∷ may))
    written runs may has left =
        survived (state g old) (state g new) (change runs) runs may
        (survives_then (state g old) (state g mid) (state g new) (λ _. ⊥) (IsSchema2Of (change runs)) (IsSchema2Of (change runs)) (λ _ db none. absurd none) (λ _ db it. it) (looked.crash runs has) (second runs has)) left

    pub write_called : (r : Result T StoreFault) → OnOk r (Changes g mid new Allowed change)
        → ((runs : List Run) → StandsFor (state g old) runs → HasCleanDisk (state g mid) → HasCleanDisk (state g new) → IfOk r (λ x. Agrees runs (call (Ok x)))) → IfErr r IsDatabaseFault → OnErr r (KeepsRuns g mid new) → Serves (results_spec g) (call r) old new
    write_called (Ok x) changes agrees failed kept =
        serves g (call (Ok x)) old new (λ runs has. subst (StandsFor (state g new)) (sym (is.done x runs)) (changes.stands runs (looked.stands runs has) (allowed runs has))) old_clean
        (λ runs has clean. agrees runs has (mid_clean runs has clean) clean)
        (λ runs may has. is.lasts x runs may old new (λ clean trees left. inl (changes.lasts runs (looked.stands runs has) (allowed runs has) clean trees left)))
    write_called (Err e) changes agrees failed kept =
        serves g (call (Err e)) old new (λ runs has. subst (StandsFor (state g new)) (sym (is.refused e runs)) (kept runs (looked.stands runs has))) old_clean
        (λ runs has clean. is.fails e runs failed) (λ runs may has. is.survives e runs may old new (written runs may has))
