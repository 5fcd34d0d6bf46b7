-- The run that is shown is the chosen one.
use Rattle.std.proofs.Common.{Option, Some, None, slice_get, map, get_or, drop, unwrap_or, ◌++◌, ◌==◌, ◌≡◌, ℕ, zero, suc, List, [], ◌∷◌, length, arith, refl, sym, ap, ◌∙◌, ◌⊎◌, inl, inr}
use Rattle.kt_cli.proofs.Common.{find, option_map, nat_tests, Entry, Run, IsDatabaseFault, head_at, head_of, outline_entry, AreEqualExceptOutputs, AreNumbered, run_at, RunHead, StoreFault}
use Rattle.kt_store.specs.declared.store_fault.StoreFault.TheVariants.{NoRun as Absent}
use Rattle.std.proofs.lemmas.Option.{same_Some}
use Rattle.kt_store.proofs.RunsByNumber.{number_at}

at_place : (runs : List Run) (k : ℕ) (r : Run) → AreNumbered 1 runs → slice_get runs k ≡ Some r → run_at runs r.number ≡ Some r
at_place runs k r h e = let n : r.number ≡ suc k = number_at 1 k runs r h e ∙ omega arith in ap (λ (i : ℕ). run_at runs i) n ∙ e

at_number : (n : ℕ) (runs : List Run) (r : Run) → AreNumbered 1 runs → run_at runs n ≡ Some r → run_at runs r.number ≡ Some r
at_number zero runs r h e = absurd (cc)
at_number (suc k) runs r h e = at_place runs k r h e

-- a head is that of a run, by its number
run_found : (n : ℕ) (runs : List Run) (head : RunHead) → AreNumbered 1 runs → Some head ≡ option_map head_of (run_at runs n) → (r : Run) × (head_of r ≡ head) × (run_at runs r.number ≡ Some r)
run_found n runs head h e = by (run_at runs n) refl e
  where
    by : (o : Option Run) → run_at runs n ≡ o → Some head ≡ option_map head_of o → (r : Run) × (head_of r ≡ head) × (run_at runs r.number ≡ Some r)
    by None k g = absurd cc
    by (Some r) k g = (r, same_Some (head_of r) head (sym g), at_number n runs r h k)

-- a run that has a head has entries
pub entries_there : (number : Option ℕ) (runs : List Run) (head : RunHead) (fault : StoreFault) → AreNumbered 1 runs → Some head ≡ head_at runs number
    → IsDatabaseFault fault ⊎ ((fault ≡ Absent) × (run_at runs head.number ≡ None)) → IsDatabaseFault fault
entries_there number runs head fault h e (inl s) = s
entries_there number runs head fault h e (inr s) =
    let c = run_found (unwrap_or number (length runs)) runs head h e in
    let n : run_at runs head.number ≡ Some c.0 = ap (λ (x : RunHead). run_at runs x.number) (sym c.1) ∙ c.2 in
    let z = sym s.1 ∙ n in absurd (cc)

-- each entry of an outline is in the run, by its position
pub entry_found : (es xs rest : List Entry) (e : Entry) → AreEqualExceptOutputs (xs ++ e ∷ rest) (map outline_entry es) → find (λ (d : Entry). d.position == e.position) es ≡ None → ⊥
entry_found [] [] rest e same none = absurd (cc)
entry_found [] (x ∷ xs) rest e same none = absurd (cc)
entry_found (y ∷ es) [] rest e same none = grind (arith, nat_tests, ap (λ (ds : List Entry). (get_or ds 0 e).position) same)
entry_found (y ∷ es) (x ∷ xs) rest e same none = grind (arith, nat_tests, entry_found es xs rest e (ap (drop 1) same))
