-- The state after an event represents the responses with that event.
use Rattle.kt_sched.specs.declared.next.Next.TheVariants as next
use Rattle.kt_sched.proofs.Common.{ne_eqb, Taken, filter, slice_get, count_by, Option, Some, None, ◌≡◌, ◌≢◌, ℕ, ◌+◌, ◌<◌, ◌≤◌, ◌⊎◌, true, false, cond, List, [], ◌∷◌, ◌++◌, length, drop, take, is_none, is_some, refl, sym, ◌∙◌, ap, subst, arith, slice_set, inl, inr, length-append, append-nil, drop-append-le, length-set, map-append, slice_get_within, cases_lt, cases_eq, Job, Stage, Finished, Case, Event, Then, position_of, events_of, turns, body_starts, body_start_of, recorded, Responses, has_failed, SchedState, RepresentsRun, RepresentCases, RepresentsTurn, RepresentPuts, IsStage, ChangesStage, ReplacesStage, IsSettled, HasTurn, is_active_stage, is_pending_stage, is_over, PendingCleanup, is_pending_case, is_waiting_stage, is_undecided, HasRecord, pending_at, ready_at, record_in, positions, allowed_puts, stage_changes_left, changes_left, Trace, option_to_list}
use Rattle.kt_sched.proofs.Lists.{cond_le, cond_one, cond_zero, pick, count_by-set, counted_one, sum_by-set, take_filter}
use Rattle.kt_sched.proofs.Turns.{of_same, of_other, opens_now, recorded_more, finished_is}
use Rattle.kt_sched.proofs.Stages.{fresh_inactive, says, undecided_stage, Moves, moves, owed_moves, stage_moves}
use Rattle.kt_sched.proofs.Located.{Which, at_place, each_set, one_place, set_here, which, has_turn}
use Rattle.kt_sched.proofs.Upcoming.{exclusive_needs_none, no_exclusive_active}
use Rattle.kt_sched.proofs.Choice.{nothing_opened}
use Rattle.kt_sched.proofs.Decided.{GoesOver, newly_open, gone_after}
use Rattle.std.proofs.lemmas.Option.{same_Some}
use Rattle.kt_base.proofs.Lists.{same_number}

-- `Turning plan T b i e t`: after the events `T` of `plan` and the event `e` of case `i`, the turn
-- moves from that of the state `b` to `t`. `t` is past the body that `e` started, if any, and past
-- no other body.
pub record Turning (plan : List Job) (T : Trace) (b : SchedState) (i : ℕ) (e : Event) (t : ℕ) : Type 0 where
  pub starts : body_starts (Then T e) ≡ positions (filter is_undecided (take t (turns plan)))
  pub over : GoesOver plan b.turn t
  pub within : t ≤ length b.order
  pub here : (k : ℕ) → slice_get b.order k ≡ Some i → k < t
  pub before : (k m : ℕ) → slice_get b.order k ≡ Some m → m ≢ i → k < t → k < b.turn

-- `OwedBy i o`: `o` is `None` or `Some i`, so no case other than `i` owes its cleanup.
abbrev pub OwedBy : ℕ → Option ℕ → Type 0
OwedBy i o = (k : ℕ) → k ≢ i → is_pending_case o k ≡ false

-- `AskedFor b e`: the state `b` requested a step whose response is the event `e`.
pub record AskedFor (b : SchedState) (e : Event) : Type 0 where
  pub empty : b.ready ≡ None
  pub settled : IsSettled b
  pub owing : OwedBy (position_of e) b.pending
  pub turned : body_start_of e ≡ position_of e ∷ [] → HasTurn b (position_of e)

-- `EventStep plan n fed b e cs job was now t a`: in the state `b` after the responses `fed` of the
-- run of `plan` with the width `n`, the event `e` changes the cases to `cs`. It moves its case,
-- whose job is `job`, from the stage `was` to `now`, the turn to `t`, and the number of active
-- cases to `a`.
pub record EventStep (plan : List Job) (n : ℕ) (fed : Responses) (b : SchedState) (e : Event) (cs : List Case) (job : Job) (was now : Stage) (t a : ℕ) : Type 0 where
  pub place : slice_get plan (position_of e) ≡ Some job
  pub moved : ReplacesStage b.cases cs (position_of e) now was
  pub after : ChangesStage job.cleanup was e now
  pub turn : t ≡ b.turn + length (body_start_of e)
  pub active : a + cond (is_active_stage was) 1 0 ≡ b.active + cond (is_active_stage now) 1 0
  pub asked : AskedFor b e

-- `after_event b cases turn active pending ready`: the state `b` after an event that changes its
-- fields to `cases`, `turn`, `active`, `pending` and `ready`.
abbrev pub after_event : SchedState → List Case → ℕ → ℕ → Option ℕ → Option ℕ → SchedState
after_event b cases turn active pending ready = record b { cases = cases; turn = turn; active = active; pending = pending; ready = ready; asked = next.Done }

-- `After plan n fed b e later`: in the run of `plan` with the width `n`, the state `later`
-- represents the responses `fed` and the event `e`. It has less work left than the state `b`.
pub record After (plan : List Job) (n : ℕ) (fed : Responses) (b : SchedState) (e : Event) (later : SchedState) : Type 0 where
  pub stands : RepresentsRun plan n (record fed { trace = Then fed.trace e }) later
  pub less : changes_left later.cases < changes_left b.cases

owing_is : (stage : Stage) (i : ℕ) → is_pending_stage stage ≡ is_pending_case (pending_at stage i) i
owing_is (PendingCleanup o) i = sym (same_number i)
owing_is stage i = refl

owing_by : (stage : Stage) (i : ℕ) → OwedBy i (pending_at stage i)
owing_by (PendingCleanup o) i k d = ne_eqb k i d
owing_by stage i k d = refl

module _ {plan : List Job} {n : ℕ} {fed : Responses} {b : SchedState} {e : Event} {cs : List Case} {job : Job} {was now : Stage} {t a : ℕ}
    (h : RepresentsRun plan n fed b) (s : EventStep plan n fed b e cs job was now t a) where
  abbrev i : ℕ
  i = position_of e

  abbrev new : Case
  new = record { job = s.moved.job; stage = now }

  abbrev later : List Case
  later = slice_set b.cases i new

  m : Moves was e now
  m = moves job.cleanup was e now s.after

  at : IsStage i job was (events_of i fed.trace) × (was ≢ Taken → s.moved.job ≡ job)
  at = at_place h i job s.moved.job was s.place s.moved.found

  undecided : job.decided ≡ None
  undecided = undecided_stage i job was (events_of i fed.trace) at.0 m.fresh

  now_stands : IsStage i job now (events_of i (Then fed.trace e))
  now_stands = subst (IsStage i job now) (sym (of_same i fed.trace e refl)) (stage_moves job was e now (events_of i fed.trace) at.0 s.after)

  found : slice_get later i ≡ Some new
  found = set_here b.cases i _ new s.moved.found

  one_of : (k : ℕ) (c : Case) → slice_get later k ≡ Some c → Which b.cases i new k c
  one_of = which b.cases i _ new s.moved.found

  counted : a ≡ count_by (λ (c : Case). is_active_stage c.stage) later
  counted = omega (arith, count_by-set (λ (c : Case). is_active_stage c.stage) b.cases i _ new s.moved.found, s.active, h.cases.active)

  -- A case that waited adds 1 to the number of active cases if it is active now.
  begun_now : is_waiting_stage was ≡ true → a ≡ b.active + cond (is_active_stage now) 1 0
  begun_now f = omega (arith, s.active, cond_zero (is_active_stage was) (fresh_inactive was f))

  no_more : is_active_stage was ≡ true → a ≤ b.active
  no_more v = omega (arith, s.active, cond_one (is_active_stage was) v, cond_le (is_active_stage now))

  most : a ≤ n
  most = grind (arith, m.kind, s.active, fresh_inactive was, s.asked.turned, h.cases.width_is, h.cases.most)

  lone : (k : ℕ) (j : Job) (c : Case) → slice_get plan k ≡ Some j → slice_get later k ≡ Some c → j.exclusive ≡ true → is_active_stage c.stage ≡ true → a ≡ 1
  lone k j c x g q z =
      let some = counted_one (λ (d : Case). is_active_stage d.stage) later k c g z in
      elim m.kind [
        | inr v ↦ elim (one_of k c g) [
          | inl w ↦ omega (arith, counted, some, no_more v.0, h.cases.lone k j _ x (ap (slice_get b.cases) w.0 ∙ s.moved.found) q v.0)
          | inr w ↦ omega (arith, counted, some, no_more v.0, h.cases.lone k j c x w.1 q z)
        ]
        | inl f ↦ let u = s.asked.turned f.1 in elim (one_of k c g) [
          | inl w ↦
              let same = same_Some job j (sym s.place ∙ (ap (slice_get plan) (sym w.0) ∙ x)) in
              let y = exclusive_needs_none h u.1 s.place u.3 (ap (λ (j : Job). j.exclusive) same ∙ q) in
              omega (arith, counted, some, begun_now f.0, y, cond_le (is_active_stage now))
          | inr w ↦ absurd (no_exclusive_active h u.1 s.place u.3 k j c x w.1 q z)
        ]
      ]

  owing : (k : ℕ) (c : Case) → Which b.cases i new k c → is_pending_stage c.stage ≡ is_pending_case (pending_at now i) k
  owing k c (inl w) = ap (λ (d : Case). is_pending_stage d.stage) w.1 ∙ (owing_is now i ∙ ap (is_pending_case (pending_at now i)) (sym w.0))
  owing k c (inr w) = h.cases.owing k c w.1 ∙ (s.asked.owing k w.0 ∙ sym (owing_by now i k w.0))

  owed_within : (k : ℕ) → pending_at now i ≡ Some k → (k ≡ i) ⊎ (k ≢ i) → k < length later
  owed_within k q (inl w) = omega (arith, w, length-set b.cases i new, slice_get_within b.cases i _ s.moved.found)
  owed_within k q (inr d) = absurd (cc (owing_by now i k d, ap (λ (o : Option ℕ). is_pending_case o k) q, same_number k))

  cases_step : RepresentCases plan n (Then fed.trace e) later a b.width (pending_at now i)
  cases_step = record {
    is_plan = h.cases.is_plan;
    room = h.cases.room;
    width_is = h.cases.width_is;
    pending_is = sym (owed_moves plan fed.trace job was e now s.place s.after);
    count = length-set b.cases i new ∙ h.cases.count;
    each = each_set b.cases i _ new s.moved.found plan fed.trace (Then fed.trace e) job s.place now_stands
        (λ t. at.1 (λ x. absurd (cc (m.fresh, ap is_over x)))) (λ k d. of_other i k fed.trace e refl d) h.cases.each;
    beyond = λ k g. of_other i k fed.trace e refl (λ q. absurd (omega (arith, g, q, slice_get_within plan i job s.place))) ∙ h.cases.beyond k g;
    active = counted;
    most = most;
    lone = lone;
    owing = λ k c g. owing k c (one_of k c g);
    owed_within = λ k q. owed_within k q (cases_eq k i);
  }

  -- The turn moves on by one if the event started a body, and stays otherwise.
  turning : Turning plan fed.trace b i e t
  turning = elim m.kind [
    | inl f ↦
        let o = (s.asked.turned f.1).1 in
        let u = has_turn h i o in
        let place = u.turn ∙ (sym u.place ∙ s.place) in
        let q : t ≡ b.turn + 1 = omega (arith, s.turn, ap (λ (xs : List ℕ). length xs) f.1) in
        let xs = filter is_undecided (take b.turn (turns plan)) in
        let more = ap positions (take_filter is_undecided (turns plan) b.turn job place ∙ ap (λ u. xs ++ pick u job []) (ap is_none undecided))
        ∙ (map-append (λ (j : Job). j.position) xs (job ∷ []) ∙ ap (λ k. positions xs ++ k ∷ []) (h.cases.is_plan.placed i job s.place)) in
        subst (Turning plan fed.trace b i e) (sym q) (record {
          starts = ap (λ xs. body_starts fed.trace ++ xs) f.1 ∙ (ap (λ xs. xs ++ i ∷ []) h.turn.starts ∙ sym more);
          over = (
            omega arith,
            λ k j l m y.
                let same : k ≡ b.turn = omega (arith, l, m) in
                ap (λ (z : Job). is_some z.decided) (same_Some j job (sym y ∙ (ap (slice_get (turns plan)) same ∙ place))) ∙ ap is_some undecided,
          );
          within = omega (arith, slice_get_within b.order b.turn i o);
          here = λ k y. let q = one_place h k b.turn i y o in omega (arith, q);
          before = λ k m y z l. elim (cases_eq k b.turn) [
            | inl q ↦ absurd (z (same_Some m i (sym y ∙ (ap (slice_get b.order) q ∙ o))))
            | inr q ↦ omega (arith, l, q)
          ];
        })
    | inr v ↦
        let q : t ≡ b.turn = omega (arith, s.turn, ap (λ (xs : List ℕ). length xs) v.1) in
        subst (Turning plan fed.trace b i e) (sym q) (record {
          starts = ap (λ xs. body_starts fed.trace ++ xs) v.1 ∙ (append-nil (body_starts fed.trace) ∙ h.turn.starts);
          over = (omega arith, λ k j l m g. absurd (omega (arith, l, m)));
          within = h.turn.within;
          here = λ k o. elim (cases_lt k b.turn) [
            | inl l ↦ l
            | inr l ↦ absurd (cc (fresh_inactive was ((h.turn.met k i _ o s.moved.found).0 l), v.0))
          ];
          before = λ k m o d l. l;
        })
  ]

  turn_step : RepresentsTurn plan (Then fed.trace e) later b.order t
  turn_step = record {
    walk = h.turn.walk;
    within = turning.within;
    starts = turning.starts;
    met = λ k l c g q. elim (one_of l c q) [
      | inl w ↦ (
        λ x. absurd (omega (arith, x, turning.here k (g ∙ ap Some w.0))),
        λ x z. absurd (cc (ap (λ (d : Case). is_waiting_stage d.stage) w.1, m.begins, ap is_waiting_stage z)),
      )
      | inr w ↦ let u = h.turn.met k l c g w.1 in (λ x. u.0 (omega (arith, x, turning.over.0)), λ x. u.1 (turning.before k l g w.0 x))
    ];
  }

  none : has_failed fed ≡ false → allowed_puts plan n fed.trace b.turn ≡ []
  none = nothing_opened h s.asked.empty s.asked.settled

  -- The event adds the finished case and the opened cases to the record order.
  more : recorded plan n (Then fed.trace e)
      ≡ recorded plan n fed.trace ++ (pick (is_over now) i [] ++ positions (filter (opens_now plan n fed.trace e) (turns plan)))
  more =
      let before = (says i job was _ at.0).whole ∙ m.fresh in
      let f = finished_is fed.trace e (is_over now) h.cases.is_plan undecided s.place before (says i job now _ now_stands).whole in
      recorded_more plan n fed.trace e ∙ ap (λ xs. recorded plan n fed.trace ++ (xs ++ positions (filter (opens_now plan n fed.trace e) (turns plan)))) f

  -- Only the case of the event is ready, and only if it is over.
  readied : (k : ℕ) → ready_at now b.failed i ≡ Some k → (k ≡ i) × (is_over now ≡ true)
  readied k y = (grind (arith, y), grind (arith, y))

  has_record : (k : ℕ) → k ≡ i → (x : _) × (now ≡ Finished x) → HasRecord later k
  has_record k q x = (new, x.0, ap (slice_get later) q ∙ found, ap (record_in s.moved.job) x.1)

  puts_step : RepresentPuts plan n (record fed { trace = Then fed.trace e }) b.order t (ready_at now b.failed i) b.failed
  puts_step = record {
    failed = h.puts.failed;
    stopped = λ f. grind (arith, f);
    stored = omega (
      arith,
      h.puts.stored,
      ap (λ (xs : List ℕ). length xs) more,
      length-append (recorded plan n fed.trace) (pick (is_over now) i [] ++ positions (filter (opens_now plan n fed.trace e) (turns plan))),
    );
    gone = λ f. gone_after e turning.over (h.puts.gone f) (none f);
    ready = ready;
    ripe = λ k m x o. turning.here m (o ∙ ap Some (readied k x).0);
  }
    where
      own : b.failed ≡ false → pick (is_over now) i [] ≡ option_to_list (ready_at now b.failed i)
      own f = grind (arith, f)

      ready : has_failed fed ≡ false → drop fed.stored (recorded plan n (Then fed.trace e))
          ≡ option_to_list (ready_at now b.failed i) ++ positions (allowed_puts plan n (Then fed.trace e) t)
      ready f =
          let xs = recorded plan n fed.trace in
          let ys = positions (filter (opens_now plan n fed.trace e) (turns plan)) in
          let nothing : drop fed.stored xs ≡ [] = h.puts.ready f ∙ rw (s.asked.empty, none f) refl in
          ap (drop fed.stored) more
          ∙ (drop-append-le fed.stored xs (pick (is_over now) i [] ++ ys) h.puts.stored
          ∙ rw (nothing, own (h.puts.failed ∙ f))
          (ap (λ (jobs : List Job). option_to_list (ready_at now b.failed i) ++ positions jobs) (newly_open e turning.over (h.puts.gone f) (none f))))

  pub event_taken : After plan n fed b e (after_event b cs t a (pending_at now i) (ready_at now b.failed i))
  event_taken = subst (λ (xs : List Case). After plan n fed b e (after_event b xs t a (pending_at now i) (ready_at now b.failed i)))
      (sym s.moved.changed) (record {
        stands = record {
          cases = cases_step;
          turn = turn_step;
          puts = puts_step;
          has_record = λ k x y. let w = readied k x in has_record k w.0 (m.has_record w.1);
          asked = tt;
        };
        less = omega (arith, sum_by-set (λ (c : Case). stage_changes_left c.stage) b.cases i _ new s.moved.found, m.works);
      })
