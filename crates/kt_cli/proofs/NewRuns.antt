-- The run that a command appends to the runs of a store.
use Rattle.std.proofs.Common.{Option, Some, Bool, true, false, nat_le, ◌≡◌, ℕ, suc, ◌+◌, List, [], ◌∷◌, ◌++◌, length, arith, refl, sym, ap, ◌∙◌}
use Rattle.std.proofs.lemmas.Option.{gets}
use Rattle.kt_cli.proofs.Common.{common_steps, nat_tests, Entry, Run, StoreFault, AreNumbered, new_run, insert_by_position, has_position, run_at, put_refusal, put_refusal_of, finish, finish_refusal, finish_refusal_of, with_new_run, runs_after_puts, with_entries_inserted, entries_by_position}
use Rattle.kt_cli.proofs.Numbered.{entries_last, finish_last}

-- `new_one runs moment total finished entries`: the run with the number after those of `runs`, the
-- start `moment`, `total` cases, the flag `finished` and the list `entries`
abbrev new_one : List Run → ℕ → ℕ → Bool → List Entry → Run
new_one runs moment total finished entries = record { number = suc (length runs); started = moment; total = total; finished = finished; entries = entries }

-- putting entries into a new run gives the new run with these entries
pub put_new : (runs : List Run) (number total moment : ℕ) (es : List Entry) → AreNumbered 1 runs → number ≡ suc (length runs) → runs_after_puts number es (runs ++ new_run runs total moment ∷ []) ≡ with_new_run runs moment total false es
put_new runs number total moment es h n = entries_last runs (new_run runs total moment) number es h (omega arith) (n ∙ omega arith)

-- finishing a new run marks it as finished
pub finish_new : (runs : List Run) (number total moment : ℕ) (es : List Entry) → AreNumbered 1 runs → number ≡ suc (length runs) → finish number (with_new_run runs moment total false es) ≡ with_new_run runs moment total true es
finish_new runs number total moment es h n = finish_last 1 runs (new_one runs moment total false (entries_by_position es)) number h (omega arith) (n ∙ omega arith)

inserted_length : (e : Entry) (es : List Entry) → length (insert_by_position e es) ≡ suc (length es)
inserted_length e [] = refl
inserted_length e (x ∷ es) = grind (arith, nat_tests, inserted_length e es)

among_length : (there es : List Entry) → length (with_entries_inserted there es) ≡ length there + length es
among_length there [] = omega arith
among_length there (e ∷ es) = omega (arith, among_length (insert_by_position e there) es, inserted_length e there)

new_there : (runs : List Run) (number total moment : ℕ) (es : List Entry) → number ≡ suc (length runs) → run_at (with_new_run runs moment total false es) number ≡ Some (new_one runs moment total false (entries_by_position es))
new_there runs number total moment es n = ap (λ (k : ℕ). run_at (with_new_run runs moment total false es) k) n ∙ grind (arith, common_steps, gets)

-- a new run accepts an entry whose position is below the total if no entry has this position
pub takes_entry : (runs : List Run) (number total moment : ℕ) (es : List Entry) (e : Entry) (fault : StoreFault) → number ≡ suc (length runs) → nat_le total e.position ≡ false → has_position e.position (entries_by_position es) ≡ false
    → put_refusal (with_new_run runs moment total false es) number e ≡ Some fault → ⊥
takes_entry runs number total moment es e fault n below fresh f =
    grind (arith, nat_tests, sym (ap (λ (o : Option Run). put_refusal_of o e) (new_there runs number total moment es n)) ∙ f)

-- a new run that has as many entries as its total can be finished
pub finishes : (runs : List Run) (number total moment : ℕ) (es : List Entry) (fault : StoreFault) → number ≡ suc (length runs) → length es ≡ total → finish_refusal (with_new_run runs moment total false es) number ≡ Some fault → ⊥
finishes runs number total moment es fault n l f = grind (arith, nat_tests, among_length [] es, sym (ap finish_refusal_of (new_there runs number total moment es n)) ∙ f)
