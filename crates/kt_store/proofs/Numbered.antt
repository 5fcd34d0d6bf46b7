-- The condition under which a run accepts an entry. Each call keeps runs numbered from 1, and their
-- entries ordered by position.
use Rattle.kt_store.proofs.Common.{Agrees, AllByRecursion, AreNumbered, AreOrdered, AreValidRuns, BadPosition, Began, Bool, IsValidWithEntry, Entry, Finished, IsAscending, HasNoReasonIfPassed, IsValidEntry, IsValidRun, List, None, Ok, Option, Put, RepeatedPosition, Run, RunClosed, Some, StoreCall, [], all-append, all-slice_get, all_weaker, ap, arith, cases_Bool, runs_after, cond, entries_of, false, finish, has_position, if◌then◌else◌, inl, inr, insert_by_position, length, nat_le, nat_lt, nat_tests, new_run, or_parts, put_fault, put_refusal, put_refusal_of, refl, run_at, slice_get, slice_get_within, suc, sym, true, with_entry, zero, ℕ, ◌++◌, ◌+◌, ◌<◌, ◌==◌, ◌∙◌, ◌∷◌, ◌≡◌}
use Rattle.kt_store.proofs.RunsByNumber.{entry_each, run_of}

abbrev pub lower : Entry → Entry → Type 0
lower a b = a.position < b.position

all_insert : (P : Entry → Type 0) (e : Entry) (es : List Entry) → P e → AllByRecursion P es → AllByRecursion P (insert_by_position e es)
all_insert P e [] h hs = (h, tt)
all_insert P e (x ∷ es) h hs = go (nat_lt e.position x.position) (all_insert P e es h hs.1)
  where
    go : (b : Bool) → AllByRecursion P (insert_by_position e es) → AllByRecursion P (cond b (e ∷ x ∷ es) (x ∷ insert_by_position e es))
    go true more = (h, (hs.0, hs.1))
    go false more = (hs.0, more)

pub ascends : (e : Entry) (es : List Entry) → IsAscending lower es → has_position e.position es ≡ false → IsAscending lower (insert_by_position e es)
ascends e [] h free = (tt, tt)
ascends e (x ∷ es) h free = elim (cases_Bool (nat_lt e.position x.position)) [
  | inl before ↦ let low : lower e x = grind (arith, nat_tests, before) in rw before ((low, all_weaker (lower x) (lower e) (λ y above. omega (arith, low, above)) es h.0), (h.0, h.1))
  | inr after ↦
      let other = or_parts (x.position == e.position) (has_position e.position es) free in
      let high : lower x e = grind (arith, nat_tests, after, other.0) in
      rw after (all_insert (lower x) e es high h.0, ascends e es h.1 other.1)
]

run_takes : (e : Entry) (r : Run) → IsValidEntry e → IsValidRun r → r.finished ≡ false → e.position < r.total → has_position e.position r.entries ≡ false → IsValidRun (record r { entries = insert_by_position e r.entries })
run_takes e r sound is unclosed low free = record {
  small = is.small;
  ordered = ascends e r.entries is.ordered free;
  below = all_insert (λ (x : Entry). x.position < r.total) e r.entries low is.below;
  sound = all_insert IsValidEntry e r.entries sound is.sound;
  whole = λ done. absurd (let e : true ≡ false = sym done ∙ unclosed in cc);
}

-- a run that accepts an entry is unfinished, and the entry's position is valid and free
accepts : (closed : Bool) (total position : ℕ) (here : Bool) → put_fault closed total position here ≡ None → (closed ≡ false) × (position < total) × (here ≡ false)
accepts closed total position here = by closed (nat_le total position) here refl
  where
    by : (closed past here : Bool) → nat_le total position ≡ past → (if closed then Some RunClosed else if past then Some BadPosition else if here then Some RepeatedPosition else None) ≡ None
        → (closed ≡ false) × (position < total) × (here ≡ false)
    by false false false under h = (refl, grind (arith, nat_tests, under), refl)
    by _ _ _ under h = absurd cc

module _ (runs : List Run) (run : ℕ) (e : Entry) (r : Run) (there : run_at runs run ≡ Some r) (closed : Bool) (total : ℕ) (here : Bool) (same : closed ≡ r.finished) (many : total ≡ r.total)
    (is : here ≡ has_position e.position (entries_of (run_at runs run))) where
  -- the position is taken if the run has an entry there
  here_is : here ≡ has_position e.position r.entries
  here_is = is ∙ ap (λ o. has_position e.position (entries_of o)) there

  -- the error of a put follows from the run's state
  pub put_refusal_is : put_refusal runs run e ≡ put_fault closed total e.position here
  put_refusal_is = ap (λ o. put_refusal_of o e) there ∙ sym (rw (same, many, here_is) refl)

  pub taken : put_fault closed total e.position here ≡ None → HasNoReasonIfPassed e → AreValidRuns runs → (put_refusal runs run e ≡ None) × IsValidWithEntry run e runs
  taken accepted passed valid =
      let it = accepts closed total e.position here accepted in
      (put_refusal_is ∙ accepted, fits run there valid (sym same ∙ it.0) (omega (arith, it.1, many)) (sym here_is ∙ it.2))
    where
      fits : (run : ℕ) → run_at runs run ≡ Some r → AreValidRuns runs → r.finished ≡ false → e.position < r.total → has_position e.position r.entries ≡ false → IsValidWithEntry run e runs
      fits zero there valid unclosed low free = absurd cc
      fits (suc k) there valid unclosed low free = (
        k,
        refl,
        slice_get_within runs k r there,
        λ has.
            let sound : IsValidEntry e = record { program = has.0; case_name = has.1; reason = has.2; passed = passed; meta = has.3 } in
            entry_each IsValidRun k runs r valid.numbered valid.each there e (run_takes e r sound (run_of (suc k) runs r valid there) unclosed low free),
      )

-- ---- each call keeps runs numbered from 1, and their entries ordered by position

numbers_more : (n : ℕ) (runs : List Run) (r : Run) → AreNumbered n runs → r.number ≡ n + length runs → AreNumbered n (runs ++ r ∷ [])
numbers_more n [] r h e = (e ∙ omega arith, tt)
numbers_more n (x ∷ runs) r h e = (h.0, numbers_more (suc n) runs r h.1 (e ∙ omega arith))

pub numbers_new : (runs : List Run) (total moment : ℕ) → AreNumbered 1 runs → AreNumbered 1 (runs ++ new_run runs total moment ∷ [])
numbers_new runs total moment h = numbers_more 1 runs (new_run runs total moment) h (omega arith)

numbers_of : (n : ℕ) (r s : Run) (runs more : List Run) (b : Bool) → r.number ≡ n → s.number ≡ n → AreNumbered (suc n) runs → AreNumbered (suc n) more → AreNumbered n (if b then s ∷ runs else r ∷ more)
numbers_of n r s runs more true p q h k = (q, h)
numbers_of n r s runs more false p q h k = (p, k)

pub numbers_entry : (k : ℕ) (e : Entry) (n : ℕ) (runs : List Run) → AreNumbered n runs → AreNumbered n (with_entry k e runs)
numbers_entry k e n [] h = tt
numbers_entry k e n (r ∷ runs) h = numbers_of n r (record r { entries = insert_by_position e r.entries }) runs (with_entry k e runs) (r.number == k) h.0 h.0 h.1 (numbers_entry k e (suc n) runs h.1)

pub numbers_finish : (k n : ℕ) (runs : List Run) → AreNumbered n runs → AreNumbered n (finish k runs)
numbers_finish k n [] h = tt
numbers_finish k n (r ∷ runs) h = numbers_of n r (record r { finished = true }) runs (finish k runs) (r.number == k) h.0 h.0 h.1 (numbers_finish k (suc n) runs h.1)

-- each call keeps runs numbered from 1
pub numbers_changed : (call : StoreCall) (runs : List Run) → AreNumbered 1 runs → AreNumbered 1 (runs_after call runs)
numbers_changed (Began total moment (Ok number)) runs h = numbers_new runs total moment h
numbers_changed (Put number e (Ok done)) runs h = numbers_entry number e 1 runs h
numbers_changed (Finished number (Ok done)) runs h = numbers_finish number 1 runs h
numbers_changed _ runs h = h

-- a run that accepts an entry has no entry at this position
free_of : (r : Run) (e : Entry) → put_refusal_of (Some r) e ≡ None → has_position e.position r.entries ≡ false
free_of r e accepted = (accepts r.finished r.total e.position (has_position e.position r.entries) accepted).2

abbrev IsOrdered : Run → Type 0
IsOrdered r = IsAscending (λ (a b : Entry). a.position < b.position) r.entries

ordered_entry : (k : ℕ) (e : Entry) (runs : List Run) → AreNumbered 1 runs → AreOrdered runs → put_refusal_of (slice_get runs k) e ≡ None → AreOrdered (with_entry (suc k) e runs)
ordered_entry k e runs h o = go (slice_get runs k) refl
  where
    go : (there : Option Run) → slice_get runs k ≡ there → put_refusal_of there e ≡ None → AreOrdered (with_entry (suc k) e runs)
    go None is free = absurd cc
    go (Some r) is free = entry_each IsOrdered k runs r h o is e (ascends e r.entries (all-slice_get IsOrdered runs k r is o) (free_of r e free))

ordered_finish : (k : ℕ) (runs : List Run) → AreOrdered runs → AreOrdered (finish k runs)
ordered_finish k [] o = tt
ordered_finish k (r ∷ runs) o = by (r.number == k) (ordered_finish k runs o.1)
  where
    by : (b : Bool) → AreOrdered (finish k runs) → AreOrdered (if b then record r { finished = true } ∷ runs else r ∷ finish k runs)
    by true more = (o.0, o.1)
    by false more = (o.0, more)

-- a call whose result agrees with the runs keeps entries ordered by position
pub ordered_changed : (call : StoreCall) (runs : List Run) → AreNumbered 1 runs → AreOrdered runs → Agrees runs call → AreOrdered (runs_after call runs)
ordered_changed (Began total moment (Ok number)) runs h o a = all-append _ runs (new_run runs total moment ∷ []) o (tt, tt)
ordered_changed (Put zero e (Ok done)) runs h o a = absurd cc
ordered_changed (Put (suc k) e (Ok done)) runs h o a = ordered_entry k e runs h o a
ordered_changed (Finished number (Ok done)) runs h o a = ordered_finish number runs o
ordered_changed _ runs h o a = o
