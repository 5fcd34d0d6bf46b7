-- Lookups and changes of runs in memory obey the contract of a store.
use Rattle.std.proofs.Common.{Bool, IsErrAnd, Option, Some, None, Result, Ok, Err, true, slice_get, insert, ◌==◌, ◌≡◌, ℕ, ◌≤◌, List, [], ◌∷◌, length, arith, refl, sym, ap, ◌∙◌, get_or, set, inr, subst, unwrap_or}
use Rattle.std.proofs.lemmas.Option.{slice_get_read}
use Rattle.kt_doubles.proofs.Common.{find, nat_tests, set-get_or, Entry, Run, StoreFault, NoRun, CaseOutputs, outputs_of, entry_at, AreNumbered, insert_by_position, run_at, put_refusal_of, finish_refusal_of, Agrees, Serves, runs_after, StoreCall, Put, Finished, Head, Outputs, RunHead, head_of, option_map, LeavesInMemory, memory_runs, ServesInMemory, FindsRunIndex, put_fault, finish_fault, has_position, insert_index}
use Rattle.kt_store.proofs.RunsByNumber.{run_found}
use Rattle.kt_store.proofs.Numbered.{numbers_changed, ordered_changed}
use Rattle.kt_store.proofs.ServeLemmas.{always_outlasts}
use Rattle.kt_doubles.proofs.RunsByIndex.{entry_placed, finish_placed}

-- a call that meets `ServesInMemory` obeys the contract of a store
pub serves_in_memory : (old : List Run) (call : StoreCall) (new : List Run) → ServesInMemory old call new → Serves memory_runs call old new
serves_in_memory old call new h = record {
  asked = tt;
  stands = λ runs is. (h.1 (subst (λ (rs : List Run). AreNumbered 1 rs) (sym is.0) is.1) ∙ ap (λ (rs : List Run). runs_after call rs) is.0, numbers_changed call runs is.1, ordered_changed call runs is.1 is.2 (subst (λ (rs : List Run). Agrees rs call) is.0 h.0));
  earlier = λ runs is sound. tt;
  agrees = λ runs is sound. subst (λ (rs : List Run). Agrees rs call) is.0 h.0;
  crash = λ runs may is. always_outlasts LeavesInMemory (λ _ _. tt) call runs may old new;
}

-- the head that is found by number obeys the contract of a store
pub head_served : (old : List Run) (number : Option ℕ) (head : Option RunHead) → head ≡ option_map head_of (find (λ (r : Run). r.number == unwrap_or number (length old)) old)
    → Serves memory_runs (Head number (Ok head)) old old
head_served old number head is = record {
  asked = tt;
  stands = λ runs h. h;
  earlier = λ runs h sound. tt;
  agrees = λ runs h sound. subst (λ (rs : List Run). Agrees rs (Head number (Ok head))) h.0
      (is ∙ ap (option_map head_of) (run_found (unwrap_or number (length old)) old (subst (λ (rs : List Run). AreNumbered 1 rs) (sym h.0) h.1)));
  crash = λ runs may h. always_outlasts LeavesInMemory (λ _ _. tt) (Head number (Ok head)) runs may old old;
}

-- what holds for an error holds for a result that returns it
pub by_error : {T : Type 0} (P : Result T StoreFault → Type 0) (r : Result T StoreFault) (e : StoreFault) → IsErrAnd r (λ x. x ≡ e) → P (Err e) → P r
by_error P (Ok x) e h p = absurd h
by_error P (Err f) e h p = subst (λ (x : StoreFault). P (Err x)) (sym h) p

same_list : (xs old : List Run) (place : ℕ) (run : Run) → xs ≡ old → run ≡ get_or xs place run → set xs place run ≡ old
same_list xs old place run s e = ap (λ (r : Run). set xs place r) e ∙ set-get_or xs place run ∙ s

module _ (old xs : List Run) (number place : ℕ) (run : Run) (s : xs ≡ old) (f : FindsRunIndex old number (Ok place)) (r : run ≡ get_or xs place run) where
  at_place : slice_get old place ≡ Some run
  at_place = slice_get_read old _ place run refl f.1 (r ∙ ap (λ (l : List Run). get_or l place run) s)

  there : run_at old number ≡ Some run
  there = ap (λ (k : ℕ). run_at old k) f.0 ∙ at_place

  module _ (e : Entry) (closed : Bool) (total : ℕ) (taken : Bool) (same : closed ≡ run.finished) (many : total ≡ run.total) (is : taken ≡ has_position e.position run.entries) where
    refusal_is : put_refusal_of (run_at old number) e ≡ put_fault closed total e.position taken
    refusal_is = ap (λ (o : Option Run). put_refusal_of o e) there ∙ sym (rw (same, many, is) refl)

    -- a put that fails meets `ServesInMemory`
    pub put_refused : (fault : StoreFault) → put_fault closed total e.position taken ≡ Some fault → ServesInMemory old (Put number e (Err fault)) (set xs place run)
    put_refused fault h = (inr (refusal_is ∙ h), λ _. same_list xs old place run s r)

    -- a put that succeeds meets `ServesInMemory`
    pub put_well : (entries : List Entry) → put_fault closed total e.position taken ≡ None → entries ≡ insert_by_position e run.entries → ServesInMemory old (Put number e (Ok tt)) (set xs place (record run { entries = entries }))
    put_well entries h k = (
      refusal_is ∙ h,
      λ n. ap (λ (es : List Entry). set xs place (record run { entries = es })) k ∙ ap (λ (l : List Run). set l place (record run { entries = insert_by_position e run.entries })) s
          ∙ entry_placed 1 place number old run e n (f.0 ∙ omega arith) at_place,
    )

  -- reading the outputs of an entry meets `ServesInMemory`
  pub outputs_well : (position : ℕ) (e : Entry) (outputs : CaseOutputs) → Some e ≡ find (λ (x : Entry). x.position == position) run.entries → outputs ≡ outputs_of e
      → ServesInMemory old (Outputs number position (Ok outputs)) old
  outputs_well position e outputs at is = ((e, ap (λ (o : Option Run). entry_at o position) there ∙ sym at, is), λ _. refl)

  -- reading the outputs of a missing entry meets `ServesInMemory`
  pub outputs_missing : (position : ℕ) → None ≡ find (λ (x : Entry). x.position == position) run.entries → ServesInMemory old (Outputs number position (Err NoRun)) old
  outputs_missing position at = (inr (refl, ap (λ (o : Option Run). entry_at o position) there ∙ sym at), λ _. refl)

  module _ (closed : Bool) (total count : ℕ) (same : closed ≡ run.finished) (many : total ≡ run.total) (is : count ≡ length run.entries) where
    end_refusal_is : finish_refusal_of (run_at old number) ≡ finish_fault closed total count
    end_refusal_is = ap finish_refusal_of there ∙ sym (rw (same, many, is) refl)

    -- a finish that fails meets `ServesInMemory`
    pub end_refused : (fault : StoreFault) → finish_fault closed total count ≡ Some fault → ServesInMemory old (Finished number (Err fault)) (set xs place run)
    end_refused fault h = (inr (end_refusal_is ∙ h), λ _. same_list xs old place run s r)

    -- a finish that succeeds meets `ServesInMemory`
    pub end_well : finish_fault closed total count ≡ None → ServesInMemory old (Finished number (Ok tt)) (set xs place (record run { finished = true }))
    end_well h = (
      end_refusal_is ∙ h,
      λ n. ap (λ (l : List Run). set l place (record run { finished = true })) s ∙ finish_placed 1 place number old run n (f.0 ∙ omega arith) at_place,
    )

-- inserting an entry at the index `insert_index` is inserting it with `insert_by_position`
pub inserted : (e : Entry) (es : List Entry) → insert es (insert_index e.position es) e ≡ insert_by_position e es
inserted e [] = refl
inserted e (x ∷ es) = grind (arith, nat_tests, inserted e es)

-- the index `insert_index` is at most the number of entries
pub place_within : (p : ℕ) (es : List Entry) → insert_index p es ≤ length es
place_within p [] = omega arith
place_within p (x ∷ es) = grind (arith, nat_tests, place_within p es)
