-- The next entry to record has a position that no entry before it has.
use Rattle.std.proofs.Common.{Some, slice_get, count_by, take, ◌==◌, nat_le, ◌≡◌, ℕ, zero, suc, ◌≤◌, Bool, true, false, List, [], ◌∷◌, length, refl, ◌∙◌, ap, arith}
use Rattle.kt_cli.proofs.Common.{nat_tests, option_map, slice_get-map, slice_get_within, Entry, Run, Job, IsEntry, decided, IsEntryOf, AreEntries, IsPlan, ScheduledPut, recorded, Event, Trace, events_of, StoreFault, has_position, insert_by_position, put_refusal, IsStopped, with_new_run, with_entries_inserted, entries_by_position}
use Rattle.kt_sched.specs.RecordOrder.{scheduled_puts}
use Rattle.kt_sched.proofs.Lists.{count-cons, counted_one}
use Rattle.kt_cli.proofs.NewRuns.{takes_entry}

-- inserting an entry with another position adds no entry with this position
insert_none : (i : ℕ) (e : Entry) (es : List Entry) → (e.position == i) ≡ false → has_position i es ≡ false → has_position i (insert_by_position e es) ≡ false
insert_none i e [] n h = grind (arith, nat_tests)
insert_none i e (x ∷ es) n h = grind (arith, nat_tests, insert_none i e es n)

among_none : (i : ℕ) (there es : List Entry) → has_position i there ≡ false → has_position i es ≡ false → has_position i (with_entries_inserted there es) ≡ false
among_none i there [] t h = t
among_none i there (e ∷ es) t h =
    among_none i (insert_by_position e there) es (insert_none i e there (grind (arith, nat_tests)) t) (grind (arith, nat_tests))

-- if a test passes at most once in a list, it passes for no element before one that passes
none_before : (q : ℕ → Bool) (ps : List ℕ) (k p : ℕ) → slice_get ps k ≡ Some p → q p ≡ true → count_by q ps ≤ 1 → count_by q (take k ps) ≡ 0
none_before q [] k p e t c = absurd cc
none_before q (x ∷ ps) zero p e t c = refl
none_before q (x ∷ ps) (suc k) p e t c =
    grind (arith, nat_tests, count-cons q x ps, count-cons q x (take k ps), counted_one q ps k p e t, none_before q ps k p e t)

entry_at : (job : Job) (events : List Event) (e : Entry) → IsEntry job events e → e.position ≡ job.position
entry_at job _ _ (decided v d) = refl
entry_at job _ _ _ = refl

module _ (plan : List Job) (T : Trace) (is : IsPlan plan) where
  -- the entry of a case has the case's position in the plan
  position_is : (i : ℕ) (e : Entry) → IsEntryOf plan T i e → e.position ≡ i
  position_is i e h = entry_at h.job (events_of i T) e h.entry_is ∙ is.placed i h.job h.place

  none_at : (i : ℕ) (ps : List ℕ) (es : List Entry) → AreEntries plan T ps es → count_by (λ p. p == i) ps ≡ 0 → has_position i es ≡ false
  none_at i [] [] a c = refl
  none_at i (p ∷ ps) (e ∷ es) a c = grind (arith, nat_tests, position_is p e a.0, count-cons (λ p. p == i) p ps, none_at i ps es a.1)
  none_at i _ _ a c = absurd a

  -- a new run accepts the next entry to record
  pub due_is_taken : (runs : List Run) (number moment n : ℕ) (es : List Entry) (e : Entry) (fault : StoreFault) → number ≡ suc (length runs) → IsStopped plan n T es e
      → put_refusal (with_new_run runs moment (length plan) false es) number e ≡ Some fault → ⊥
  due_is_taken runs number moment n es e fault k s f =
      let i = s.due.position in
      let placed : e.position ≡ i = position_is i e s.refused_is in
      let here : (i == i) ≡ true = grind (arith, nat_tests) in
      let below : nat_le (length plan) e.position ≡ false = grind (arith, nat_tests, placed, slice_get_within plan i s.refused_is.job s.refused_is.place) in
      let none = none_before (λ p. p == i) _ (length es) i (slice_get-map (λ (d : ScheduledPut). d.position) (scheduled_puts plan n T) (length es) ∙ ap (option_map (λ (d : ScheduledPut). d.position)) s.next) here (s.once i) in
      let fresh : has_position i (entries_by_position es) ≡ false = among_none i [] es refl (none_at i (take (length es) (recorded plan n T)) es s.are none) in
      takes_entry runs number (length plan) moment es e fault k below (ap (λ (j : ℕ). has_position j (entries_by_position es)) placed ∙ fresh) f
