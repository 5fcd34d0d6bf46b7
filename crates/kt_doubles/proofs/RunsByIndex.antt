-- Runs that are changed by index and by number: the number is the index plus 1.
use Rattle.std.proofs.Common.{Some, true, slice_get, slice_set, ◌≡◌, ℕ, zero, suc, ◌+◌, List, [], ◌∷◌, arith, ◌∙◌}
use Rattle.kt_doubles.proofs.Common.{nat_tests, Entry, Run, AreNumbered, insert_by_position, with_entry, finish}

-- inserting an entry into the run at an index is inserting it into the run with this number
pub entry_placed : (n k number : ℕ) (runs : List Run) (r : Run) (e : Entry) → AreNumbered n runs → number ≡ n + k → slice_get runs k ≡ Some r → slice_set runs k (record r { entries = insert_by_position e r.entries }) ≡ with_entry number e runs
entry_placed n k number [] r e h i there = absurd cc
entry_placed n zero number (x ∷ runs) r e h i there = grind (arith, nat_tests, h.0)
entry_placed n (suc k) number (x ∷ runs) r e h i there = grind (arith, nat_tests, h.0, entry_placed (suc n) k number runs r e h.1 (i ∙ omega arith) there)

-- finishing the run at an index is finishing the run with this number
pub finish_placed : (n k number : ℕ) (runs : List Run) (r : Run) → AreNumbered n runs → number ≡ n + k → slice_get runs k ≡ Some r → slice_set runs k (record r { finished = true }) ≡ finish number runs
finish_placed n k number [] r h i there = absurd cc
finish_placed n zero number (x ∷ runs) r h i there = grind (arith, nat_tests, h.0)
finish_placed n (suc k) number (x ∷ runs) r h i there = grind (arith, nat_tests, h.0, finish_placed (suc n) k number runs r h.1 (i ∙ omega arith) there)
