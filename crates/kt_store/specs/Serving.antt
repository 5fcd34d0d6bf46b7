-- The effect of a store call on the runs that the store represents, by the result of the call.
use Rattle.std.specs.Prelude.{suc, List, [], ◌∷◌, ◌++◌, ◌≡◌, ◌<◌, ◌≤◌, ◌⊎◌, Some, None, Ok, Err, length, map}
use Rattle.kt_store.specs.Ask.{IsDatabaseFault}
use Rattle.kt_store.specs.Heads.{head_at, outline_entry, pairs_of, outputs_of, entry_at}
use Rattle.kt_store.specs.Runs.{AreNumbered, AreOrdered, IsSchema2OfOne, new_run, run_at, with_entry, put_refusal, finish, finish_refusal}
use Rattle.kt_store.specs.Stands.{Leaves, StandsFor}
use Rattle.kt_store.specs.StoreCalls.{StoreCall, Began, Put, Finished, Head, Outline, Pairs, Outputs}
use Rattle.kt_store.specs.declared.result_store.StoreSpec as store
use Rattle.kt_store.specs.Types.{Entry, Ghosts, HasCleanDisk, Held, NoRun, Run, StoreFull, greatest_run_number, state}

-- `runs_after call runs`: the runs of a store with `runs` after `call`; a failed call and a call
-- that reads change nothing
abbrev pub runs_after : StoreCall → List Run → List Run
runs_after (Began total moment (Ok number)) runs = runs ++ new_run runs total moment ∷ []
runs_after (Put number e (Ok done)) runs = with_entry number e runs
runs_after (Finished number (Ok done)) runs = finish number runs
runs_after _ runs = runs

-- `Agrees runs call`: the result of `call` is correct for a store with `runs`. An error is the
-- first that applies, or it reports that memory ran out or that the database failed.
abbrev pub Agrees : List Run → StoreCall → Type 0
Agrees runs (Began total moment (Ok number)) = (number ≡ suc (length runs)) × (length runs < greatest_run_number)
Agrees runs (Began total moment (Err fault)) = IsDatabaseFault fault ⊎ ((fault ≡ StoreFull) × (greatest_run_number ≤ length runs))
Agrees runs (Put number e (Ok done)) = put_refusal runs number e ≡ None
Agrees runs (Put number e (Err fault)) = IsDatabaseFault fault ⊎ (put_refusal runs number e ≡ Some fault)
Agrees runs (Finished number (Ok done)) = finish_refusal runs number ≡ None
Agrees runs (Finished number (Err fault)) = IsDatabaseFault fault ⊎ (finish_refusal runs number ≡ Some fault)
Agrees runs (Head number (Ok head)) = head ≡ head_at runs number
Agrees runs (Head number (Err fault)) = IsDatabaseFault fault
Agrees runs (Outline number (Ok entries)) = (run' : Run) × (run_at runs number ≡ Some run') × (entries ≡ map outline_entry run'.entries)
Agrees runs (Outline number (Err fault)) = IsDatabaseFault fault ⊎ ((fault ≡ NoRun) × (run_at runs number ≡ None))
Agrees runs (Pairs number position (Ok pairs)) = pairs ≡ pairs_of (entry_at (run_at runs number) position)
Agrees runs (Pairs number position (Err fault)) = IsDatabaseFault fault
Agrees runs (Outputs number position (Ok outputs)) = (e : Entry) × (entry_at (run_at runs number) position ≡ Some e) × (outputs ≡ outputs_of e)
Agrees runs (Outputs number position (Err fault)) = IsDatabaseFault fault ⊎ ((fault ≡ NoRun) × (entry_at (run_at runs number) position ≡ None))

module _ {R : Type 0} (LeavesOne : R → List (List Run) → Type 0) where
  -- `SurvivesCrash LeavesOne call runs may old new`: a crash after `call` leaves only permitted
  -- runs. The call leads a store with `runs` from the state `old` to `new`. `LeavesOne s lists`: in
  -- state `s`, a crash leaves one of `lists`. `may` are lists of runs that a crash might leave
  -- before the call. After a successful call that writes, only the changed runs are permitted. A
  -- failed call that writes adds the changed runs to the lists. A call that reads adds nothing.
  abbrev pub SurvivesCrash : StoreCall → List Run → List (List Run) → R → R → Type 0
  SurvivesCrash (Began total moment (Ok number)) runs may old new = LeavesOne new ((runs ++ new_run runs total moment ∷ []) ∷ [])
  SurvivesCrash (Began total moment (Err fault)) runs may old new = LeavesOne old (runs ∷ may) → LeavesOne new (runs ∷ (runs ++ new_run runs total moment ∷ []) ∷ may)
  SurvivesCrash (Put number e (Ok done)) runs may old new = LeavesOne new (with_entry number e runs ∷ [])
  SurvivesCrash (Put number e (Err fault)) runs may old new = LeavesOne old (runs ∷ may) → LeavesOne new (runs ∷ with_entry number e runs ∷ may)
  SurvivesCrash (Finished number (Ok done)) runs may old new = LeavesOne new (finish number runs ∷ [])
  SurvivesCrash (Finished number (Err fault)) runs may old new = LeavesOne old (runs ∷ may) → LeavesOne new (runs ∷ finish number runs ∷ may)
  SurvivesCrash _ runs may old new = LeavesOne old may → LeavesOne new may

-- `Serves r call old new`: `call` leads a store with the specification `r` from `old` to `new`. If
-- `old` represents runs, `new` represents the runs after the call (`runs_after`), and a crash
-- leaves the runs that `SurvivesCrash` states. If `new` is then sound, `old` was sound, and the
-- result of `call` agrees with the runs (`Agrees`).
pub record Serves {R : Type 0} (r : store.Ghosts R) (call : StoreCall) (old new : R) : Type 0 where
  pub asked : r.answers old call new
  pub stands : (runs : List Run) → r.stands old runs → r.stands new (runs_after call runs)
  pub earlier : (runs : List Run) → r.stands old runs → r.sound new → r.sound old
  pub agrees : (runs : List Run) → r.stands old runs → r.sound new → Agrees runs call
  pub crash : (runs : List Run) (may : List (List Run)) → r.stands old runs → SurvivesCrash r.leaves call runs may old new

-- `Reads r old new`: a call that only reads leads a store with the specification `r` from `old` to
-- `new`. If `old` represents runs, `new` represents the same runs. If `new` is then sound, `old`
-- was sound. A crash leaves only what a crash before the call leaves.
pub record Reads {R : Type 0} (r : store.Ghosts R) (old new : R) : Type 0 where
  pub stands : (runs : List Run) → r.stands old runs → r.stands new runs
  pub earlier : (runs : List Run) → r.stands old runs → r.sound new → r.sound old
  pub crash : (runs : List Run) (may : List (List Run)) → r.stands old runs → r.leaves old may → r.leaves new may

-- `results_spec g`: the specification of the store `Results` over connections with the
-- specification `g`. Its relation `answers` always holds, since other clauses state the results of
-- calls.
abbrev pub results_spec : {S : Type 0} → Ghosts S → store.Ghosts (Held S)
results_spec g = record {
  answers = λ _ _ _. Unit {0};
  stands = λ s runs. StandsFor (state g s) runs × AreNumbered 1 runs × (HasCleanDisk (state g s) → AreOrdered runs);
  sound = λ s. HasCleanDisk (state g s);
  leaves = λ s may. Leaves (state g s) (IsSchema2OfOne may);
  numbered = λ s runs h. h.1;
  ordered = λ s runs h sound. h.2 sound;
}
