-- Runs that are changed by index and by number: the number is the index plus 1.
use Rattle.std.proofs.Common.{true, ◌≡◌, ℕ, suc, ◌+◌, List, [], ◌∷◌, ◌++◌, length, arith, refl, ap, ◌∙◌}
use Rattle.kt_cli.proofs.Common.{nat_tests, Entry, Run, AreNumbered, insert_by_position, with_entry, finish, runs_after_puts, with_entries_inserted}

-- putting an entry into the last run changes only the last run
entry_last : (n : ℕ) (runs : List Run) (run : Run) (number : ℕ) (e : Entry) → AreNumbered n runs → run.number ≡ n + length runs → number ≡ n + length runs → with_entry number e (runs ++ run ∷ []) ≡ runs ++ (record run { entries = insert_by_position e run.entries }) ∷ []
entry_last n [] run number e h r i = grind (arith, nat_tests)
entry_last n (x ∷ runs) run number e h r i = grind (arith, nat_tests, h.0, entry_last (suc n) runs run number e h.1 (r ∙ omega arith) (i ∙ omega arith))

-- finishing the last run changes only the last run
pub finish_last : (n : ℕ) (runs : List Run) (run : Run) (number : ℕ) → AreNumbered n runs → run.number ≡ n + length runs → number ≡ n + length runs → finish number (runs ++ run ∷ []) ≡ runs ++ (record run { finished = true }) ∷ []
finish_last n [] run number h r i = grind (arith, nat_tests)
finish_last n (x ∷ runs) run number h r i = grind (arith, nat_tests, h.0, finish_last (suc n) runs run number h.1 (r ∙ omega arith) (i ∙ omega arith))

-- putting entries into the last run changes only the last run
pub entries_last : (runs : List Run) (run : Run) (number : ℕ) (es : List Entry) → AreNumbered 1 runs → run.number ≡ 1 + length runs → number ≡ 1 + length runs → runs_after_puts number es (runs ++ run ∷ []) ≡ runs ++ (record run { entries = with_entries_inserted run.entries es }) ∷ []
entries_last runs run number [] h r i = refl
entries_last runs run number (e ∷ es) h r i =
    ap (λ (xs : List Run). runs_after_puts number es xs) (entry_last 1 runs run number e h r i) ∙ entries_last runs (record run { entries = insert_by_position e run.entries }) number es h r i

-- putting entries with one more at the end is putting the entries, and then this one
pub put_more : (number : ℕ) (es : List Entry) (e : Entry) (runs : List Run) → runs_after_puts number (es ++ e ∷ []) runs ≡ with_entry number e (runs_after_puts number es runs)
put_more number [] e runs = refl
put_more number (x ∷ es) e runs = put_more number es e (with_entry number x runs)
