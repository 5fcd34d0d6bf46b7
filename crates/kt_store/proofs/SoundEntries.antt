-- Entries and their properties, read from sound rows.
use Rattle.kt_store.proofs.Common.{AllByRecursion, AreValidRuns, Bool, Entry, IsAscending, IsValidEntry, IsEncodableProperty, List, None, Option, Run, Some, [], arith, entries_of, entry_at, false, find, nat_tests, pairs_of, refl, run_at, true, ℕ, ◌<◌, ◌==◌, ◌∷◌, ◌≡◌}
use Rattle.kt_store.proofs.EntriesLemmas.{sound_of}
use Rattle.kt_store.proofs.OutputsLemmas.{has}

-- `IsOwn es e`: the entry `e` meets `IsValidEntry`, and it is the first of `es` at its position
abbrev pub IsOwn : List Entry → Entry → Type 0
IsOwn es e = IsValidEntry e × (find (has e.position) es ≡ Some e)

pub are_own : (es : List Entry) → IsAscending (λ (a b : Entry). a.position < b.position) es → AllByRecursion IsValidEntry es → AllByRecursion (IsOwn es) es
are_own [] up sound = tt
are_own (e ∷ es) up sound = ((sound.0, let same : (e.position == e.position) ≡ true = grind (arith, nat_tests) in rw same refl), behind es up.0 (are_own es up.1 sound.1))
  where
    behind : (xs : List Entry) → AllByRecursion (λ (x : Entry). e.position < x.position) xs → AllByRecursion (IsOwn es) xs → AllByRecursion (IsOwn (e ∷ es)) xs
    behind [] past own = tt
    behind (x ∷ xs) past own = ((own.0.0, let other : (e.position == x.position) ≡ false = grind (arith, nat_tests, past.0) in rw other own.0.1), behind xs past.1 own.1)

-- the properties of an entry of sound runs meet `IsEncodableProperty`
pub pairs_sound : (runs : List Run) (n p : ℕ) → AreValidRuns runs → AllByRecursion IsEncodableProperty (pairs_of (entry_at (run_at runs n) p))
pairs_sound runs n p valid = go (run_at runs n) (sound_of runs n valid)
  where
    found : (es : List Entry) → AllByRecursion IsValidEntry es → AllByRecursion IsEncodableProperty (pairs_of (find (has p) es))
    found [] sound = tt
    found (e ∷ es) sound = by (has p e) refl (found es sound.1)
      where
        by : (b : Bool) → has p e ≡ b → AllByRecursion IsEncodableProperty (pairs_of (find (has p) es)) → AllByRecursion IsEncodableProperty (pairs_of (find (has p) (e ∷ es)))
        by true here later = rw here sound.0.meta
        by false other later = rw other later

    go : (o : Option Run) → AllByRecursion IsValidEntry (entries_of o) → AllByRecursion IsEncodableProperty (pairs_of (entry_at o p))
    go None sound = tt
    go (Some r) sound = found r.entries sound
