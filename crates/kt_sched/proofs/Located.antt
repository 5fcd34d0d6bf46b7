-- The facts that a state implies for one case.
use Rattle.kt_sched.proofs.Common.{Bool, is_waiting_stage, is_decided_stage, HasExclusiveFlag, HasDecidedFlag, slice_get, Option, Some, None, map, ◌≡◌, ◌≢◌, ℕ, ◌<◌, ◌⊎◌, true, false, List, [], length, refl, sym, ◌∙◌, ap, subst, arith, slice_set, inl, inr, false_from_ne_true, cases_eq, cases_lt, length-map, ◌≤◌, slice_get-map, slice_get_read, slice_get_within, get_or, Role, Body, Cleanup, Job, Next, Stage, PendingCleanup, Taken, EndedBody, Case, Event, Trace, events_of, kind_of_event, history, is_active, active, turns, Responses, role_runs, runs, stage_runs, SchedState, RepresentsRun, RepresentsCase, IsStage, HasRequested, is_active_stage, is_pending_stage, is_pending_case}
use Rattle.kt_sched.specs.declared.next.Next.TheVariants as next
use Rattle.kt_sched.proofs.Lists.{within_some, mapped_at, slice_get-set_other, slice_get-set_same, counted_some, counted_one, counted_none, count_alike}
use Rattle.kt_sched.proofs.Turns.{turn_inside, turn_distinct}
use Rattle.kt_sched.proofs.Stages.{Says, says, active_runs, owing_stage, runs_active}
use Rattle.std.proofs.lemmas.Grind.{common_steps}
use Rattle.std.proofs.lemmas.Option.{gets, same_Some}
use Rattle.kt_base.proofs.Lists.{same_number}

-- `AtTurn plan fed b i`: in the state `b` after the responses `fed`, case `i` of `plan` is at the
-- turn, and is not begun.
pub record AtTurn (plan : List Job) (fed : Responses) (b : SchedState) (i : ℕ) : Type 0 where
  pub job : Job
  pub turn : slice_get (turns plan) b.turn ≡ Some job
  pub at : job.position ≡ i
  pub place : slice_get plan i ≡ Some job
  pub case : Case
  pub found : slice_get b.cases i ≡ Some case
  pub stage : IsStage i job case.stage (events_of i fed.trace)
  pub fresh : is_waiting_stage case.stage ≡ true
  pub kept : case.job ≡ job

-- `Located plan T i was had`: case `i` is in `plan`, and its stage `was` represents its events in
-- the trace `T`. `had` is its job, unless its entry was taken.
pub record Located (plan : List Job) (T : Trace) (i : ℕ) (was : Stage) (had : Job) : Type 0 where
  pub job : Job
  pub place : slice_get plan i ≡ Some job
  pub stands : IsStage i job was (events_of i T)
  pub says : Says job was (history i T)
  pub kept : was ≢ Taken → had ≡ job

-- `Which xs i new k c`: case `k` of the list `xs` is `c`, after case `i` was replaced by `new`.
abbrev pub Which : List Case → ℕ → Case → ℕ → Case → Type 0
Which xs i new k c = ((k ≡ i) × (c ≡ new)) ⊎ ((k ≢ i) × (slice_get xs k ≡ Some c))

module _ (xs : List Case) (i : ℕ) (old new : Case) (g : slice_get xs i ≡ Some old) where
  pub set_here : slice_get (slice_set xs i new) i ≡ Some new
  set_here = slice_get-set_same xs i new (slice_get_within xs i old g)

  pub which : (k : ℕ) (c : Case) → slice_get (slice_set xs i new) k ≡ Some c → Which xs i new k c
  which k c e = let l = slice_get_within xs i old g in grind (arith, common_steps, gets)

  -- After the replacement each case represents its events, if the new case does.
  pub each_set : (plan : List Job) (T U : Trace) (job : Job) → slice_get plan i ≡ Some job → IsStage i job new.stage (events_of i U)
      → (new.stage ≢ Taken → new.job ≡ job)
      → ((k : ℕ) → k ≢ i → events_of k U ≡ events_of k T) → ((k : ℕ) (j : Job) → slice_get plan k ≡ Some j → RepresentsCase T k j xs)
      → (k : ℕ) (j : Job) → slice_get plan k ≡ Some j → RepresentsCase U k j (slice_set xs i new)
  each_set plan T U job p s m o h k j x = elim (cases_eq k i) [
    | inl q ↦
        let same : job ≡ j = same_Some job j (sym p ∙ (ap (slice_get plan) (sym q) ∙ x)) in
        let here : RepresentsCase U i job (slice_set xs i new) = record { case = new; found = set_here; stage = s; kept = m } in
        subst (λ k. RepresentsCase U k j (slice_set xs i new)) (sym q) (subst (λ (y : Job). RepresentsCase U i y (slice_set xs i new)) same here)
    | inr d ↦
        let w = h k j x in
        let s = subst (IsStage k j w.case.stage) (sym (o k d)) w.stage in
        record { case = w.case; found = slice_get-set_other xs i k new d ∙ w.found; stage = s; kept = w.kept }
  ]

-- Facts of the case at the turn.
module _ {plan : List Job} {fed : Responses} {b : SchedState} {i : ℕ} {flag : Bool} (a : AtTurn plan fed b i) where
  pub exclusive_is : HasExclusiveFlag b.cases i flag → a.job.exclusive ≡ flag
  exclusive_is x =
      ap (λ (j : Job). j.exclusive) (sym a.kept) ∙ (ap (λ (c : Case). c.job.exclusive) (same_Some a.case x.0 (sym a.found ∙ x.1)) ∙ x.2)

  pub decided_is : HasDecidedFlag b.cases i flag → is_decided_stage a.case.stage ≡ flag
  decided_is x = ap (λ (c : Case). is_decided_stage c.stage) (same_Some a.case x.0 (sym a.found ∙ x.1)) ∙ x.2

module _ {plan : List Job} {n : ℕ} {fed : Responses} {b : SchedState} (h : RepresentsRun plan n fed b) where
  -- The stage of a case represents the events of that case.
  pub at_place : (i : ℕ) (job had : Job) (was : Stage) → slice_get plan i ≡ Some job → slice_get b.cases i ≡ Some (record { job = had; stage = was })
      → IsStage i job was (events_of i fed.trace) × (was ≢ Taken → had ≡ job)
  at_place i job had was j g =
      let w = h.cases.each i job j in
      let e : w.case ≡ record { job = had; stage = was } = same_Some _ _ (sym w.found ∙ g) in (
        subst (λ (c : Case). IsStage i job c.stage (events_of i fed.trace)) e w.stage,
        λ t. ap (λ (c : Case). c.job) (sym e) ∙ w.kept (λ q. t (ap (λ (c : Case). c.stage) (sym e) ∙ q)),
      )

  pub located : (i : ℕ) (had : Job) (was : Stage) → slice_get b.cases i ≡ Some (record { job = had; stage = was }) → Located plan fed.trace i was had
  located i had was g =
      let j = within_some plan i (omega (arith, slice_get_within b.cases i _ g, h.cases.count)) in
      let s = at_place i j.0 had was j.1 g in
      record { job = j.0; place = j.1; stands = s.0; says = says i j.0 was (events_of i fed.trace) s.0; kept = s.1 }

  pub says_at : (k : ℕ) (job : Job) (g : slice_get plan k ≡ Some job) → Says job (h.cases.each k job g).case.stage (history job.position fed.trace)
  says_at k job g =
      let w = h.cases.each k job g in
      subst (λ (j : ℕ). Says job w.case.stage (history j fed.trace)) (sym (h.cases.is_plan.placed k job g)) (says k job w.case.stage (events_of k fed.trace) w.stage)

  -- The state's number of active cases is that of the trace.
  pub active_is : active plan fed.trace ≡ b.active
  active_is = count_alike (is_active fed.trace) (λ (c : Case). is_active_stage c.stage) plan b.cases (sym h.cases.count) each ∙ sym h.cases.active
    where
      each : (i : ℕ) (job : Job) (c : Case) → slice_get plan i ≡ Some job → slice_get b.cases i ≡ Some c → is_active fed.trace job ≡ is_active_stage c.stage
      each i job c g k = (says_at i job g).active ∙ ap (λ (d : Case). is_active_stage d.stage) (same_Some _ _ (sym (h.cases.each i job g).found ∙ k))

  -- If the state's number of active cases is 0, no case is active.
  pub inactive : (k : ℕ) (c : Case) → b.active ≡ 0 → slice_get b.cases k ≡ Some c → is_active_stage c.stage ≡ false
  inactive k c a g = counted_none (λ (d : Case). is_active_stage d.stage) b.cases k c (sym h.cases.active ∙ a) g

  -- If a case is active, the state's number of active cases is positive.
  pub some_active : (i : ℕ) (c : Case) → slice_get b.cases i ≡ Some c → is_active_stage c.stage ≡ true → 0 < b.active
  some_active i c g e = omega (arith, h.cases.active, counted_one (λ (d : Case). is_active_stage d.stage) b.cases i c g e)

  -- If the turn is past the order, it is past all cases.

  pub turn_past : length b.order ≤ b.turn → length (turns plan) ≤ b.turn
  turn_past l = omega (arith, l, ap (λ (xs : List ℕ). length xs) h.turn.walk, length-map (turns plan) (λ (job : Job). job.position))

  turn_at : (k i : ℕ) → slice_get b.order k ≡ Some i
      → (job : Job) × (slice_get (turns plan) k ≡ Some job) × (job.position ≡ i) × (slice_get plan i ≡ Some job)
  turn_at k i g =
      let w = mapped_at (λ (job : Job). job.position) (turns plan) k i (sym (ap (λ (xs : List ℕ). slice_get xs k) h.turn.walk) ∙ g) in
      (w.0, w.1, w.2, ap (slice_get plan) (sym w.2) ∙ turn_inside plan h.cases.is_plan.placed k w.0 w.1)

  pub at_turn : (k : ℕ) (job : Job) → slice_get (turns plan) k ≡ Some job → slice_get b.order k ≡ Some job.position
  at_turn k job g = rw (h.turn.walk, slice_get-map, g) refl

  pub one_place : (k l i : ℕ) → slice_get b.order k ≡ Some i → slice_get b.order l ≡ Some i → k ≡ l
  one_place k l i g e =
      let x = turn_at k i g in
      let y = turn_at l i e in
      turn_distinct plan h.cases.is_plan.placed k l x.0 y.0 x.1 y.1 (x.2 ∙ sym y.2)

  pub start_within : (k i : ℕ) → slice_get b.order k ≡ Some i → i < length b.cases
  start_within k i o = let t = turn_at k i o in omega (arith, slice_get_within plan i t.0 t.3, h.cases.count)

  -- The case that is read at the index of the turn is the case at the turn.
  pub turn_found : (i : ℕ) (case : Case) → slice_get b.order b.turn ≡ Some i → case ≡ get_or b.cases i case → slice_get b.cases i ≡ Some case
  turn_found i case t e = slice_get_read b.cases (length b.cases) i case refl (start_within b.turn i t) e

  pub has_turn : (i : ℕ) → slice_get b.order b.turn ≡ Some i → AtTurn plan fed b i
  has_turn i o =
      let t = turn_at b.turn i o in
      let w = h.cases.each i t.0 t.3 in
      let f = (h.turn.met b.turn i w.case o w.found).0 (omega arith) in
      record {
        job = t.0;
        turn = t.1;
        at = t.2;
        place = t.3;
        case = w.case;
        found = w.found;
        stage = w.stage;
        fresh = f;
        kept = w.kept (λ x. absurd (cc (f, ap is_waiting_stage x)));
      }

  -- The step asked fits the state.

  pub asked_as : (q : Next) → b.asked ≡ q → HasRequested b q
  asked_as q e = subst (HasRequested b) e h.asked

  pub asked_within : (i : ℕ) (role : Role) → b.asked ≡ next.Start i role → i < length b.cases
  asked_within i Body q = start_within b.turn i (asked_as (next.Start i Body) q).2.1
  asked_within i Cleanup q = h.cases.owed_within i (asked_as (next.Start i Cleanup) q).1

  -- The pending case owes its cleanup.
  pub owes : (i : ℕ) → b.pending ≡ Some i → (had : Job) × (o : EndedBody) × (slice_get b.cases i ≡ Some (record { job = had; stage = PendingCleanup o }))
  owes i q =
      let c = within_some b.cases i (h.cases.owed_within i q) in
      let e = owing_stage c.0.stage (h.cases.owing i c.0 c.1 ∙ (ap (λ (o : Option ℕ). is_pending_case o i) q ∙ same_number i)) in
      (c.0.job, e.0, subst (λ (s : Stage). slice_get b.cases i ≡ Some (record { job = c.0.job; stage = s })) e.1 c.1)

  pub none_owing : b.pending ≡ None → (k : ℕ) (c : Case) → slice_get b.cases k ≡ Some c → is_pending_stage c.stage ≡ false
  none_owing p k c g = h.cases.owing k c g ∙ ap (λ (o : Option ℕ). is_pending_case o k) p

  -- Running children.

  -- A running child belongs to a case whose stage runs in the child's role.
  pub runs_stage : (i : ℕ) (r : Role) → runs i r fed.trace ≡ true → (c : Case) × (slice_get b.cases i ≡ Some c) × (stage_runs r c.stage ≡ true)
  runs_stage i r e = elim (cases_lt i (length plan)) [
    | inl g ↦
        let j = within_some plan i g in
        let w = h.cases.each i j.0 j.1 in
        (w.case, w.found, sym ((says i j.0 w.case.stage (events_of i fed.trace) w.stage).runs r) ∙ e)
    | inr g ↦ absurd (cc (ap (λ (es : List Event). role_runs r (map kind_of_event es)) (h.cases.beyond i g) ∙ empty_quiet r, e))
  ]
    where
      empty_quiet : (role : Role) → role_runs role [] ≡ false
      empty_quiet Body = refl
      empty_quiet Cleanup = refl

  pub something_runs : b.pending ≡ None → 0 < b.active → (i : ℕ) × (role : Role) × (runs i role fed.trace ≡ true)
  something_runs p a =
      let w = counted_some (λ (c : Case). is_active_stage c.stage) b.cases (omega (arith, h.cases.active)) in
      let l = located w.0 w.1.job w.1.stage w.2 in
      let r = active_runs w.1.stage w.3 (none_owing p w.0 w.1 w.2) in
      (w.0, r.0, l.says.runs r.0 ∙ r.1)

  pub nothing_runs : b.active ≡ 0 → (i : ℕ) (role : Role) → runs i role fed.trace ≡ false
  nothing_runs a i role = false_from_ne_true (runs i role fed.trace)
      (λ e. let w = runs_stage i role e in cc (runs_active role w.0.stage w.2, inactive i w.0 a w.1))
