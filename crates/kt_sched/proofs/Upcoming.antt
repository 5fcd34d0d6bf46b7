-- The case at the turn, the next body in turn order, and exclusive cases, which run alone.
use Rattle.kt_sched.proofs.Common.{slice_get, Some, None, take, drop, filter, is_none, ◌≡◌, ℕ, ◌+◌, true, List, [], ◌++◌, length, refl, sym, ◌∙◌, ap, subst, arith, take-append_seam, drop-append_seam, length-map, take-append-drop, filter-append, Job, Stage, Waiting, Case, events_of, turns, body_starts, undecided_turns, next_to_start, Responses, SchedState, RepresentsRun, IsStage, HasTurn, IsSettled, Order, positions, is_undecided, ◌||◌, ◌<◌, ◌⊎◌, false, inl, inr, cases_Bool, or_left, or_right, cases_lt, cases_eq, Body, Cleanup, has_whole_history, pending_cleanup, MayStartExclusive, IsExclusiveAtStart, is_active_stage, HasExclusiveFlag}
use Rattle.kt_sched.proofs.Lists.{drop_at, filter_in, get_drop, slice_get-drop, counted_two, list_all_from}
use Rattle.kt_sched.proofs.Stages.{waiting_stage, fresh_inactive, over_stage}
use Rattle.kt_sched.proofs.Located.{AtTurn, decided_is, exclusive_is, has_turn, at_turn, active_is, inactive, owes, says_at}
use Rattle.kt_sched.proofs.Turns.{turn_covers, turn_sorted}
use Rattle.std.proofs.lemmas.Option.{same_Some}

module _ {plan : List Job} {n : ℕ} {fed : Responses} {b : SchedState} (h : RepresentsRun plan n fed b) where
  abbrev begun : List Job
  begun = filter is_undecided (take b.turn (turns plan))

  abbrev left : List Job
  left = filter is_undecided (drop b.turn (turns plan))

  as_many : length (body_starts fed.trace) ≡ length begun
  as_many = ap (λ (zs : List ℕ). length zs) h.turn.starts ∙ length-map begun (λ (job : Job). job.position)

  in_parts : undecided_turns plan ≡ begun ++ left
  in_parts =
      ap (filter is_undecided) (sym (take-append-drop b.turn (turns plan))) ∙ filter-append is_undecided (take b.turn (turns plan)) (drop b.turn (turns plan))

  -- The bodies start in turn order.
  pub in_order : Order plan fed.trace
  in_order =
      h.turn.starts
      ∙ ap positions (sym (ap (λ k. take k (undecided_turns plan)) as_many ∙ (ap (take (length begun)) in_parts ∙ take-append_seam begun left)))

  -- The next body to start is the body of the first undecided case from the turn on.
  pub next_is : next_to_start plan fed.trace ≡ slice_get left 0
  next_is =
      ap (slice_get (undecided_turns plan)) as_many ∙ (ap (λ (zs : List Job). slice_get zs (length begun)) in_parts
      ∙ (slice_get-drop (begun ++ left) (length begun) ∙ ap (λ (zs : List Job). slice_get zs 0) (drop-append_seam begun left)))

  pub next_at : (job : Job) → slice_get (turns plan) b.turn ≡ Some job → job.decided ≡ None → next_to_start plan fed.trace ≡ Some job
  next_at job g d =
      next_is ∙ (ap (λ (jobs : List Job). slice_get (filter is_undecided jobs) 0) (drop_at (turns plan) b.turn job g) ∙ rw (ap is_none d) refl)

  pub next_later : (job : Job) → next_to_start plan fed.trace ≡ Some job → (m : ℕ) × (slice_get (turns plan) (b.turn + m) ≡ Some job)
  next_later job g =
      let w = filter_in is_undecided (drop b.turn (turns plan)) 0 job (sym next_is ∙ g) in
      (w.0, sym (get_drop (turns plan) b.turn w.0) ∙ w.1)

  -- The case at the turn waits, if no decided case can be put.
  pub upcoming : (i : ℕ) → b.ready ≡ None → IsSettled b → HasTurn b i
      → (a : AtTurn plan fed b i) × (a.case.stage ≡ Waiting) × (events_of i fed.trace ≡ []) × (a.job.decided ≡ None)
  upcoming i r s t =
      let a = has_turn h i t.1 in
      let z = waiting_stage a.case.stage a.fresh (decided_is a (s r i t)) in
      let P : Stage → Type 0 = λ x. IsStage i a.job x (events_of i fed.trace) in
      let q = subst P z a.stage in
      (a, z, q.0, q.1)

  -- Each case of the plan has an index in the turn order.
  pub covers : (k : ℕ) (j : Job) → slice_get plan k ≡ Some j → (m : ℕ) × (slice_get (turns plan) m ≡ Some j) × (slice_get b.order m ≡ Some k)
  covers k j g = let c = turn_covers plan h.cases.is_plan.placed k j g in (c.0, c.1, at_turn h c.0 j c.1 ∙ ap Some (h.cases.is_plan.placed k j g))

  -- If no case is active, each case that was begun has a whole history.
  begun_whole : b.active ≡ 0 → (i k : ℕ) (job : Job) → slice_get plan i ≡ Some job → slice_get b.order k ≡ Some i → k < b.turn
      → has_whole_history fed.trace job ≡ true
  begun_whole a i k job g o l =
      let s = h.cases.each i job g in
      (says_at h i job g).whole ∙ over_stage s.case.stage ((h.turn.met k i s.case o s.found).1 l) (inactive h i s.case a s.found)

  -- Ordinary cases come before exclusive cases in the turn order.
  earlier : (k l : ℕ) (x y : Job) → slice_get (turns plan) k ≡ Some x → slice_get (turns plan) l ≡ Some y → x.exclusive ≡ true → y.exclusive ≡ false → l < k
  earlier k l x y g d e f = elim (cases_lt l k) [ inl z ↦ z | inr z ↦ absurd (cc (turn_sorted plan k l x y g d z e, f)) ]

  -- The case at the turn, if it may start.
  module _ {i : ℕ} {job : Job} (o : slice_get b.order b.turn ≡ Some i) (g : slice_get plan i ≡ Some job) where
    same : (has_turn h i o).job ≡ job
    same = same_Some _ job (sym (has_turn h i o).place ∙ g)

    turn_is : slice_get (turns plan) b.turn ≡ Some job
    turn_is = (has_turn h i o).turn ∙ ap Some same

    quiet_start : job.exclusive ≡ true → b.active ≡ 0 → MayStartExclusive plan fed.trace
    quiet_start e a = (
      active_is h ∙ a,
      list_all_from (λ (j : Job). j.exclusive || has_whole_history fed.trace j) plan (λ k j x.
          elim (cases_Bool j.exclusive) [
            | inl q ↦ or_left _ _ q
            | inr q ↦ let c = covers k j x in or_right _ _ (begun_whole a k c.0 j x c.2 (earlier b.turn c.0 job j turn_is c.1 e q))
          ]),
    )

    -- A job that may start while other cases are active is ordinary.
    turn_ordinary : HasExclusiveFlag b.cases i false → job.exclusive ≡ false
    turn_ordinary x = ap (λ (j : Job). j.exclusive) (sym same) ∙ exclusive_is (has_turn h i o) x

    -- If a body may start, no exclusive case is active.
    pub no_exclusive_active : (b.active ≡ 0 ⊎ HasExclusiveFlag b.cases i false) → (k : ℕ) (j : Job) (c : Case)
        → slice_get plan k ≡ Some j → slice_get b.cases k ≡ Some c → j.exclusive ≡ true → is_active_stage c.stage ≡ true → ⊥
    no_exclusive_active (inl a) k j c x y e v = absurd (cc (inactive h k c a y, v))
    no_exclusive_active (inr w) k j c x y e v =
        let u = covers k j x in
        let r = earlier u.0 b.turn j job u.1 turn_is e (turn_ordinary w) in
        absurd (cc (fresh_inactive c.stage ((h.turn.met u.0 k c u.2 y).0 (omega (arith, r))), v))

    -- If an exclusive body may start, no case is active.
    pub exclusive_needs_none : (b.active ≡ 0 ⊎ HasExclusiveFlag b.cases i false) → job.exclusive ≡ true → b.active ≡ 0
    exclusive_needs_none (inl a) e = a
    exclusive_needs_none (inr w) e = absurd (cc (turn_ordinary w, e))

  pub exclusive_body : (i : ℕ) → slice_get b.order b.turn ≡ Some i → (b.active ≡ 0 ⊎ HasExclusiveFlag b.cases i false) → IsExclusiveAtStart plan fed.trace i Body
  exclusive_body i o w = record {
    quiet = λ job g e r. quiet_start o g e (exclusive_needs_none o g w e);
    own = λ job k g e a.
        let s = h.cases.each k job g in
        absurd (no_exclusive_active o (has_turn h i o).place w k job s.case g s.found e (sym (says_at h k job g).active ∙ a));
  }

  pub exclusive_cleanup : (i : ℕ) → pending_cleanup plan fed.trace ≡ Some i → IsExclusiveAtStart plan fed.trace i Cleanup
  exclusive_cleanup i o = record {
    quiet = λ job g e r. absurd (cc (r));
    own = λ job k g e a.
        let s = h.cases.each k job g in
        let v = sym (says_at h k job g).active ∙ a in
        let w = owes h i (h.cases.pending_is ∙ o) in
        let two = counted_two (λ (d : Case). is_active_stage d.stage) b.cases k i s.case _ s.found v w.2 refl in
        elim (cases_eq k i) [
          | inl q ↦ (q, refl)
          | inr q ↦ absurd (omega (arith, h.cases.lone k job s.case g s.found e v, h.cases.active, two q))
        ];
  }
