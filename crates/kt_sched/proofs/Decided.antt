-- Decided cases: those open from a turn on, and those that an event opens.
use Rattle.kt_sched.proofs.Common.{ne_eqb, slice_get, filter, take, drop, Some, not, nat_lt, ◌==◌, ◌&&◌, ◌||◌, if◌then◌else◌, ◌≡◌, ◌≢◌, ℕ, zero, suc, ◌+◌, ◌-◌, ◌<◌, ◌≤◌, ◌⊎◌, Bool, true, false, List, [], ◌∷◌, refl, sym, ◌∙◌, ap, arith, inl, inr, and-true, or-false, and_from, and_parts, list_all, list_any, nat_tests, take-append-drop, filter-append, cases_eq, cases_lt, Job, Event, Trace, Then, active, turns, body_starts, is_put_allowed, was_put_allowed, is_begun, jobs_before, IsPlan, TracksAllowedPuts, allowed_puts, positions, is_decided, is_undecided}
use Rattle.kt_sched.proofs.Lists.{any_none, filter_alike, filter_in, filter_none, get_drop, get_take, list_all_at, list_all_from, mapped_at, none_passes, take_within}
use Rattle.kt_sched.proofs.Turns.{opens_now, turn_distinct, turn_sorted}
use Rattle.std.proofs.lemmas.Option.{same_Some}
use Rattle.kt_base.proofs.Lists.{same_number}

ahead_is : (xs : List Job) (k : ℕ) (job : Job) → ((j : ℕ) (x : Job) → j < k → slice_get xs j ≡ Some x → x.position ≢ job.position) → slice_get xs k ≡ Some job
    → jobs_before job.position xs ≡ take k xs
ahead_is [] k job d g = absurd (cc)
ahead_is (y ∷ ys) zero job d g = let e : y ≡ job = cc in rw (e, same_number job.position) refl
ahead_is (y ∷ ys) (suc k) job d g =
    rw (ne_eqb y.position job.position (d 0 y (omega arith) refl)) (ap (λ zs. y ∷ zs) (ahead_is ys k job (λ j x l q. d (suc j) x (omega (arith, l)) q) g))

-- `room_in a n job`: with `a` active cases and the width `n`, there is a free slot for `job`.
abbrev pub room_in : ℕ → ℕ → Job → Bool
room_in a n job = if job.exclusive then a == 0 else nat_lt a n

-- If there is a free slot for a later case, there is one for an earlier case.
room_falls : (a n : ℕ) (ex ey : Bool) → 0 < n → (ex ≡ true → ey ≡ true) → (if ey then a == 0 else nat_lt a n) ≡ true
    → (if ex then a == 0 else nat_lt a n) ≡ true
room_falls a n ex ey z s h = grind (arith, nat_tests, s, h)

any_filtered : (q : ℕ → Bool) (p : Job → Bool) (xs : List Job) (k : ℕ) (x : Job) → slice_get xs k ≡ Some x → p x ≡ true → q x.position ≡ true
    → list_any q (positions (filter p xs)) ≡ true
any_filtered q p [] k x g e f = absurd (cc)
any_filtered q p (y ∷ ys) zero x g e f = let s : y ≡ x = cc in rw (s, e, f) refl
any_filtered q p (y ∷ ys) (suc k) x g e f = grind (arith, any_filtered q p ys k x g e f)

module _ {plan : List Job} (T : Trace) (p : ℕ) (h : IsPlan plan) (s : body_starts T ≡ positions (filter is_undecided (take p (turns plan)))) where
  -- The cases before the turn are begun.
  begun_before : (j : ℕ) (job : Job) → j < p → slice_get (turns plan) j ≡ Some job → is_begun T job ≡ true
  begun_before j job l g =
      let q = λ (i : ℕ). i == job.position in
      let any : is_undecided job ≡ true → list_any q (body_starts T) ≡ true = λ d. ap (list_any q) s
      ∙ any_filtered q is_undecided (take p (turns plan)) j job (get_take (turns plan) p j l ∙ g) d (same_number job.position) in
      grind (arith, any)

  -- The case at the turn is begun if and only if it is decided.
  begun_at : (job : Job) → slice_get (turns plan) p ≡ Some job → is_begun T job ≡ is_decided job
  begun_at job g =
      ap (λ b. is_decided job || b) (ap (list_any (λ i. i == job.position)) s ∙ any_none _ _ (λ k i q. ne_eqb i job.position (λ e. apart k i q e)))
      ∙ or-false (is_decided job)
    where
      apart : (k i : ℕ) → slice_get (positions (filter is_undecided (take p (turns plan)))) k ≡ Some i → i ≡ job.position → ⊥
      apart k i q e =
          let xs = take p (turns plan) in
          let m = mapped_at (λ (x : Job). x.position) (filter is_undecided xs) k i q in
          let w = filter_in is_undecided xs k m.0 m.1 in
          let l = take_within (turns plan) p w.0 m.0 w.1 in
          let z = turn_distinct plan h.placed w.0 p m.0 job (sym (get_take (turns plan) p w.0 l) ∙ w.1) g (m.2 ∙ e) in
          absurd (omega (arith, z, l))

  all_ahead : (k : ℕ) (job : Job) → slice_get (turns plan) k ≡ Some job
      → list_all (is_begun T) (jobs_before job.position (turns plan)) ≡ list_all (is_begun T) (take k (turns plan))
  all_ahead k job g = ap (list_all (is_begun T)) (ahead_is (turns plan) k job apart g)
    where
      apart : (j : ℕ) (x : Job) → j < k → slice_get (turns plan) j ≡ Some x → x.position ≢ job.position
      apart j x l q e = let z = turn_distinct plan h.placed j k x job q g e in omega (arith, l, z)

  -- A decided case at the turn is open if there is a free slot for it.
  pub open_here : (n : ℕ) (job : Job) → slice_get (turns plan) p ≡ Some job → is_decided job ≡ true → room_in (active plan T) n job ≡ true
      → is_put_allowed plan n T job ≡ true
  open_here n job g d r =
      let xs = turns plan in
      let begun = list_all_from (is_begun T) (take p xs) (λ j x y. let l = take_within xs p j x y in begun_before j x l (sym (get_take xs p j l) ∙ y)) in
      and_from _ _ (and_from _ _ d (all_ahead p job g ∙ begun)) r

  -- If a later case is open, the case at the turn is decided and has a free slot.
  pub first_open : {n : ℕ} (k : ℕ) (job x : Job) → 0 < n → p ≤ k → slice_get (turns plan) p ≡ Some job → slice_get (turns plan) k ≡ Some x
      → is_put_allowed plan n T x ≡ true → (is_decided job ≡ true) × (room_in (active plan T) n job ≡ true)
  first_open {n} k job x z l g y e =
      let outer = and_parts (is_decided x && list_all (is_begun T) (jobs_before x.position (turns plan))) (room_in (active plan T) n x) e in
      let inner = and_parts (is_decided x) (list_all (is_begun T) (jobs_before x.position (turns plan))) outer.0 in (
        decided (cases_eq p k) inner.0 (sym (all_ahead k x y) ∙ inner.1),
        room_falls (active plan T) n job.exclusive x.exclusive z (turn_sorted plan p k job x g y l) outer.1,
      )
    where
      decided : (p ≡ k) ⊎ (p ≢ k) → is_decided x ≡ true → list_all (is_begun T) (take k (turns plan)) ≡ true → is_decided job ≡ true
      decided (inl q) d a = ap is_decided (same_Some job x (sym g ∙ (ap (slice_get (turns plan)) q ∙ y))) ∙ d
      decided (inr q) d a =
          sym (begun_at job g) ∙ list_all_at (is_begun T) (take k (turns plan)) p job (get_take (turns plan) k p (omega (arith, l, q)) ∙ g) a

-- `GoesOver plan p q`: the turn of `plan` moves from `p` to `q`, and passes only undecided cases.
abbrev pub GoesOver : List Job → ℕ → ℕ → Type 0
GoesOver plan p q = (p ≤ q) × ((k : ℕ) (job : Job) → p ≤ k → k < q → slice_get (turns plan) k ≡ Some job → is_decided job ≡ false)

-- For one more event `e`, after events `T` that leave no decided case to be put.
module _ {plan : List Job} {n : ℕ} {T : Trace} (e : Event) {p q : ℕ} (over : GoesOver plan p q) (gone : TracksAllowedPuts plan n T p)
    (none : allowed_puts plan n T p ≡ []) where
  closed_before : (k : ℕ) (job : Job) → p ≤ k → slice_get (turns plan) k ≡ Some job → was_put_allowed plan n T job ≡ false
  closed_before k job l g =
      let r : p + (k - p) ≡ k = omega (arith, l) in
      let at = get_drop (turns plan) p (k - p) ∙ (ap (slice_get (turns plan)) r ∙ g) in
      gone.due k job l g ∙ none_passes (is_put_allowed plan n T) (drop p (turns plan)) none (k - p) job at

  -- A decided case before the turn was open before.
  passed : (k : ℕ) (job : Job) → k < q → slice_get (turns plan) k ≡ Some job → is_decided job ≡ true → was_put_allowed plan n T job ≡ true
  passed k job l g d = elim (cases_lt k p) [ inl x ↦ gone.gone k job x g d | inr x ↦ absurd (cc (over.1 k job x l g, d)) ]

  not_now : (k : ℕ) (job : Job) → k < q → slice_get (turns plan) k ≡ Some job → opens_now plan n T e job ≡ false
  not_now k job l g = grind (arith, passed k job l g)

  -- An event opens the decided cases that are open from the turn on.
  pub newly_open : filter (opens_now plan n T e) (turns plan) ≡ allowed_puts plan n (Then T e) q
  newly_open =
      let f = opens_now plan n T e in
      let xs = turns plan in
      let none = filter_none f (take q xs) (λ k job g. let l = take_within xs q k job g in not_now k job l (sym (get_take xs q k l) ∙ g)) in
      let alike = filter_alike f (is_put_allowed plan n (Then T e)) (drop q xs)
      (λ k job g. ap (λ b. is_put_allowed plan n (Then T e) job && not b) (closed_before (q + k) job (omega (arith, over.0)) (sym (get_drop xs q k) ∙ g))
      ∙ and-true (is_put_allowed plan n (Then T e) job)) in
      ap (filter f) (sym (take-append-drop q xs)) ∙ (filter-append f (take q xs) (drop q xs) ∙ (rw none alike))

  -- After the event, each decided case before the turn was open.
  pub gone_after : TracksAllowedPuts plan n (Then T e) q
  gone_after = record {
    gone = λ k job l g d. rw (passed k job l g d) refl;
    due = λ k job l g. rw (closed_before k job (omega (arith, l, over.0)) g) refl;
  }
