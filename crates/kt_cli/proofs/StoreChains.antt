-- The effect of sequences of store calls.
use Rattle.std.proofs.Common.{Ok, ◌≡◌, List, [], ◌∷◌, ◌++◌, refl, sym, subst}
use Rattle.kt_cli.proofs.Common.{Run, StoreCall, Began, Put, Finished, Head, Outline, Outputs, Pairs, chain-append, SurvivesCrash, Serves, runs_after, crash_runs_after, runs_after_calls, crash_runs_after_calls, Agree, CallsStore}
use Rattle.kt_store.specs.declared.result_store.StoreSpec as keeping

-- the runs after `xs` and then `ys` are those after `ys` on a store with the runs after `xs`
pub runs_after_calls-append : (xs ys : List StoreCall) (runs : List Run) → runs_after_calls (xs ++ ys) runs ≡ runs_after_calls ys (runs_after_calls xs runs)
runs_after_calls-append [] ys runs = refl
runs_after_calls-append (x ∷ xs) ys runs = runs_after_calls-append xs ys (runs_after x runs)

-- the crash outcomes after `xs` and then `ys` are those after `ys` on a store with the runs and the
-- crash outcomes after `xs`
pub crash_runs_after_calls-append : (xs ys : List StoreCall) (runs : List Run) (may : List (List Run)) → crash_runs_after_calls (xs ++ ys) runs may ≡ crash_runs_after_calls ys (runs_after_calls xs runs) (crash_runs_after_calls xs runs may)
crash_runs_after_calls-append [] ys runs may = refl
crash_runs_after_calls-append (x ∷ xs) ys runs may = crash_runs_after_calls-append xs ys (runs_after x runs) (crash_runs_after x runs may)

agree_both : (xs ys : List StoreCall) (runs : List Run) → Agree runs xs → Agree (runs_after_calls xs runs) ys → Agree runs (xs ++ ys)
agree_both [] ys runs a b = b
agree_both (x ∷ xs) ys runs a b = (a.0, agree_both xs ys (runs_after x runs) a.1 b)

-- if two sequences of calls agree with the runs, the second agrees with the runs after the first
pub agree_later : (xs ys : List StoreCall) (runs : List Run) → Agree runs (xs ++ ys) → Agree (runs_after_calls xs runs) ys
agree_later [] ys runs a = a
agree_later (x ∷ xs) ys runs a = agree_later xs ys (runs_after x runs) a.1

-- a crash after a call leaves the runs after the call, or one of `crash_runs_after`
crash_by : {R : Type 0} (Leaves : R → List (List Run) → Type 0) (call : StoreCall) (runs : List Run) (may : List (List Run)) (a b : R) → ((m : List (List Run)) → SurvivesCrash Leaves call runs m a b) → Leaves a (runs ∷ may)
    → Leaves b (runs_after call runs ∷ crash_runs_after call runs may)
crash_by Leaves (Began total moment (Ok number)) runs may a b h l = h may
crash_by Leaves (Put number e (Ok done)) runs may a b h l = h may
crash_by Leaves (Finished number (Ok done)) runs may a b h l = h may
crash_by Leaves (Head number answer) runs may a b h l = h (runs ∷ may) l
crash_by Leaves (Outline number answer) runs may a b h l = h (runs ∷ may) l
crash_by Leaves (Pairs number position answer) runs may a b h l = h (runs ∷ may) l
crash_by Leaves (Outputs number position answer) runs may a b h l = h (runs ∷ may) l
crash_by Leaves _ runs may a b h l = h may l

module _ {R : Type 0} (keep : keeping.Ghosts R) where
  -- an empty list of calls meets `CallsStore`
  pub stored_none : (a : R) → CallsStore keep [] a a
  stored_none a = record { answered = refl; kept = record { stands = λ runs h. h; earlier = λ runs h s. s; agree = λ runs h s. tt; crash = λ runs may h l. l } }

  -- two sequences of calls that meet `CallsStore` meet it together
  pub stored_both : (xs ys : List StoreCall) (a b d : R) → CallsStore keep xs a b → CallsStore keep ys b d → CallsStore keep (xs ++ ys) a d
  stored_both xs ys a b d p q =
      let x = p.kept in
      let y = q.kept in
      record {
        answered = chain-append keep.answers xs ys a b d p.answered q.answered;
        kept = record {
          stands = λ runs h. subst (λ (rs : List Run). keep.stands d rs) (sym (runs_after_calls-append xs ys runs)) (y.stands (runs_after_calls xs runs) (x.stands runs h));
          earlier = λ runs h s. x.earlier runs h (y.earlier (runs_after_calls xs runs) (x.stands runs h) s);
          agree = λ runs h s. agree_both xs ys runs (x.agree runs h (y.earlier (runs_after_calls xs runs) (x.stands runs h) s)) (y.agree (runs_after_calls xs runs) (x.stands runs h) s);
          crash = λ runs may h l. rw (runs_after_calls-append xs ys runs, crash_runs_after_calls-append xs ys runs may) (y.crash (runs_after_calls xs runs) (crash_runs_after_calls xs runs may) (x.stands runs h) (x.crash runs may h l));
        };
      }

  -- `CallsStore` holds for an equal list of calls
  pub stored_as : (xs ys : List StoreCall) (a b : R) → xs ≡ ys → CallsStore keep xs a b → CallsStore keep ys a b
  stored_as xs ys a b e p = subst (λ (cs : List StoreCall). CallsStore keep cs a b) e p

  -- one call that meets `Serves` meets `CallsStore`
  pub stored_call : (call : StoreCall) (a b : R) → Serves keep call a b → CallsStore keep (call ∷ []) a b
  stored_call call a b s = record {
    answered = (b, s.asked, refl);
    kept = record { stands = s.stands; earlier = s.earlier; agree = λ runs h sound. (s.agrees runs h sound, tt); crash = λ runs may h l. crash_by keep.leaves call runs may a b (λ m. s.crash runs m h) l };
  }
