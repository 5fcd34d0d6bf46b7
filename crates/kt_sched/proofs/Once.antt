-- Each position is in the record order once.
use Rattle.kt_sched.proofs.Common.{ne_eqb, slice_get, filter, count_by, Some, ◌==◌, ◌&&◌, if◌then◌else◌, ◌≡◌, ◌≢◌, ℕ, suc, ◌+◌, ◌≤◌, Bool, true, false, cond, List, [], ◌∷◌, ◌++◌, length, refl, sym, ◌∙◌, ap, arith, inl, inr, and_from, nat_tests, cases_lt, length-filter, count_by-le-length, slice_get_within, Job, Event, Trace, NoEvent, Then, position_of, history, is_whole, has_whole_history, turns, jobs_finished_by, is_put_allowed, was_put_allowed, recorded, IsPlan, is_decided, positions, NamesEachOnce}
use Rattle.kt_sched.proofs.Lists.{counted_one, counted_only, count-cons, count_alike, count_by-append, filter_none, within_some}
use Rattle.kt_sched.proofs.Turns.{count_turns, history_other, put_at_positions, recorded_more, finishes, opens_now}
use Rattle.std.proofs.lemmas.Option.{same_Some}
use Rattle.kt_base.proofs.Lists.{same_number}

-- `is_done plan n T job`: in the run of `plan` with the width `n`, the events `T` schedule the put
-- of the entry of `job`.
abbrev pub is_done : List Job → ℕ → Trace → Job → Bool
is_done plan n T job = if is_decided job then was_put_allowed plan n T job else has_whole_history T job

-- `NotWhole plan T i`: the history of case `i` of `plan` in the trace `T` isn't whole.
abbrev pub NotWhole : List Job → Trace → ℕ → Type 0
NotWhole plan T i = (job : Job) → slice_get plan i ≡ Some job → is_whole job (history i T) ≡ false

-- `Recorded plan n T`: the record order after the events `T`, in the run of `plan` with the width
-- `n`, has each done case once and no other.
abbrev pub Recorded : List Job → ℕ → Trace → Type 0
Recorded plan n T = (q : ℕ → Bool) → count_by q (recorded plan n T) ≡ count_by (λ job. q job.position && is_done plan n T job) plan

count_positions : (q : ℕ → Bool) (p : Job → Bool) (xs : List Job) → count_by q (positions (filter p xs)) ≡ count_by (λ job. q job.position && p job) xs
count_positions q p xs = mapped (filter p xs) ∙ filtered xs
  where
    mapped : (ys : List Job) → count_by q (positions ys) ≡ count_by (λ (job : Job). q job.position) ys
    mapped [] = refl
    mapped (y ∷ ys) = omega (arith, mapped ys, count-cons q y.position (positions ys), count-cons (λ (job : Job). q job.position) y ys)

    filtered : (ys : List Job) → count_by (λ (job : Job). q job.position) (filter p ys) ≡ count_by (λ job. q job.position && p job) ys
    filtered [] = refl
    filtered (y ∷ ys) =
        grind (arith, filtered ys, count-cons (λ (job : Job). q job.position) y (filter p ys), count-cons (λ job. q job.position && p job) y ys)

count_three : {X : Type 0} (a b c d : X → Bool) (xs : List X)
    → ((i : ℕ) (x : X) → slice_get xs i ≡ Some x → cond {A = ℕ} (a x) 1 0 + (cond (b x) 1 0 + cond (c x) 1 0) ≡ cond (d x) 1 0)
    → count_by a xs + (count_by b xs + count_by c xs) ≡ count_by d xs
count_three a b c d [] h = refl
count_three a b c d (x ∷ xs) h =
    omega (arith, h 0 x refl, count_three a b c d xs (λ i y g. h (suc i) y g), count-cons a x xs, count-cons b x xs, count-cons c x xs, count-cons d x xs)

module _ (plan : List Job) (n : ℕ) (T : Trace) (e : Event) (p : IsPlan plan) (h : NotWhole plan T (position_of e)) where
  -- A case is done after an event if it was done before, or if the event finishes or opens it.
  each : (q : Bool) (k : ℕ) (job : Job) → slice_get plan k ≡ Some job
      → cond {A = ℕ} (q && is_done plan n T job) 1 0 + (cond (q && finishes T e job) 1 0 + cond (q && opens_now plan n T e job) 1 0)
      ≡ cond (q && is_done plan n (Then T e) job) 1 0
  each q k job g = grind (arith, not_yet, other)
    where
      not_yet : (job.position == position_of e) ≡ true → has_whole_history T job ≡ false
      not_yet r =
          let s : job.position ≡ position_of e = grind (arith, nat_tests, r) in
          ap (λ i. is_whole job (history i T)) s ∙ h job (ap (slice_get plan) (sym s ∙ p.placed k job g) ∙ g)

      other : (job.position == position_of e) ≡ false → has_whole_history (Then T e) job ≡ has_whole_history T job
      other r =
          let apart : job.position ≢ position_of e = grind (arith, nat_tests, r) in
          ap (is_whole job) (history_other (position_of e) job.position T e refl apart)

  pub recorded_event : Recorded plan n T → Recorded plan n (Then T e)
  recorded_event r q =
      let xs = positions (jobs_finished_by plan T e) in
      let ys = positions (filter (opens_now plan n T e) (turns plan)) in
      let all = ap (count_by q) (recorded_more plan n T e)
      ∙ (count_by-append q (recorded plan n T) (xs ++ ys) ∙ ap (λ k. count_by q (recorded plan n T) + k) (count_by-append q xs ys)) in
      let opens = count_positions q (opens_now plan n T e) (turns plan) ∙ count_turns (λ job. q job.position && opens_now plan n T e job) plan in
      let three = count_three (λ job. q job.position && is_done plan n T job) (λ job. q job.position && finishes T e job)
      (λ job. q job.position && opens_now plan n T e job)
      (λ job. q job.position && is_done plan n (Then T e) job) plan
      (λ k job g. each (q job.position) k job g) in
      omega (arith, all, r q, count_positions q (finishes T e) plan, opens, three)

pub recorded_first : (plan : List Job) (n : ℕ) → Recorded plan n NoEvent
recorded_first plan n q =
    ap (count_by q) (put_at_positions 0 (filter (is_put_allowed plan n NoEvent) (turns plan)))
    ∙ (count_positions q (is_put_allowed plan n NoEvent) (turns plan)
    ∙ (count_turns (λ job. q job.position && is_put_allowed plan n NoEvent job) plan
    ∙ count_alike (λ job. q job.position && is_put_allowed plan n NoEvent job) (λ job. q job.position && is_done plan n NoEvent job) plan plan refl
    (λ i x y g k. ap (λ b. q x.position && b) (at_first x)
    ∙ ap (λ (job : Job). q job.position && is_done plan n NoEvent job) (same_Some x y (sym g ∙ k)))))
  where
    at_first : (job : Job) → is_put_allowed plan n NoEvent job ≡ is_done plan n NoEvent job
    at_first job = grind arith

count_all : {X : Type 0} (xs : List X) → count_by (λ (x : X). true) xs ≡ length xs
count_all [] = refl
count_all {X} (x ∷ xs) = omega (arith, count-cons (λ (y : X). true) x xs, count_all xs)

-- The record order has at most as many positions as the plan has cases.
pub recorded_most : (plan : List Job) (n : ℕ) (T : Trace) → Recorded plan n T → length (recorded plan n T) ≤ length plan
recorded_most plan n T r = omega (arith, count_all (recorded plan n T), r (λ i. true), count_by-le-length (λ (job : Job). true && is_done plan n T job) plan)

module _ {plan : List Job} (n : ℕ) (T : Trace) (p : IsPlan plan) (r : Recorded plan n T) where
  abbrev named_so : ℕ → Job → Bool
  named_so i job = job.position == i && is_done plan n T job

  others_not : (i k : ℕ) (job : Job) → slice_get plan k ≡ Some job → k ≢ i → named_so i job ≡ false
  others_not i k job g d = rw (p.placed k job g, ne_eqb k i d) refl

  -- Each case is named at most once.
  pub named_at_most_once : (i : ℕ) → count_by (λ p. p == i) (recorded plan n T) ≤ 1
  named_at_most_once i = elim (cases_lt i (length plan)) [
    | inl l ↦ let w = within_some plan i l in omega (arith, r (λ k. k == i), counted_only (named_so i) plan i w.0 w.1 (others_not i))
    | inr l ↦ let none = filter_none (named_so i) plan (λ k j x. others_not i k j x (λ q. absurd (omega (arith, l, q, slice_get_within plan k j x)))) in
        omega (arith, r (λ k. k == i), length-filter (named_so i) plan, ap (λ (xs : List Job). length xs) none)
  ]

  -- If every case is done, each case is named once.
  pub names_once : ((i : ℕ) (job : Job) → slice_get plan i ≡ Some job → is_done plan n T job ≡ true) → NamesEachOnce plan (recorded plan n T)
  names_once h = record {
    all = sym (count_all (recorded plan n T))
        ∙ (r (λ i. true) ∙ (count_alike (λ (job : Job). true && is_done plan n T job) (λ (job : Job). true) plan plan refl (λ i x y g k. h i x g)
        ∙ count_all plan));
    once = λ i l.
        let w = within_some plan i l in
        let some = and_from _ _ (ap (λ k. k == i) (p.placed i w.0 w.1) ∙ same_number i) (h i w.0 w.1) in
        omega (arith, named_at_most_once i, r (λ k. k == i), counted_one (named_so i) plan i w.0 w.1 some);
  }
