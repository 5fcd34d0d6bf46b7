-- The chosen step is the first that applies, its consequences hold, and no other step is next.
use Rattle.kt_sched.proofs.Common.{slice_get, Option, Some, None, drop, filter, is_some, nat_lt, ◌==◌, MatchOption, ◌⊎◌, if◌then◌else◌, ◌≡◌, ℕ, ◌+◌, ◌<◌, Bool, true, false, List, [], ◌∷◌, ◌++◌, length, refl, sym, ◌∙◌, ap, subst, arith, inl, inr, drop_of_length-le, false_from_ne_true, ⊤, nat_tests, slice_get_within, Body, Cleanup, Job, Next, Case, Trace, active, turns, next_to_start, IsBusy, recorded, Responses, has_failed, IsNext, IsChosen, HasNoTurn, MayStartBody, SchedState, RepresentsRun, IsSettled, positions, allowed_puts, is_put_allowed, is_decided, is_undecided, is_none, IsPlan, body_starts, map, ◌≢◌, ◌≤◌, Role, Stage, Waiting, PendingCleanup, Taken, BodyStarted, end_kind, kind_of_event, events_of, history, is_whole, has_whole_history, HasStepFacts, WerePutsAllowed, IsStage, HasRequested, option_to_list, HasExclusiveFlag, IsNotTaken}
use Rattle.kt_sched.specs.declared.next.Next.TheVariants as next
use Rattle.kt_sched.proofs.Lists.{filter_none, get_drop, slice_get-drop, within_some, filter_in, list_all_from}
use Rattle.kt_sched.proofs.Decided.{first_open, room_in}
use Rattle.kt_sched.proofs.Turns.{turn_sorted, turn_inside}
use Rattle.kt_sched.proofs.Located.{exclusive_is, has_turn, turn_past, at_turn, active_is, something_runs, nothing_runs, inactive, located, owes, runs_stage, says_at}
use Rattle.kt_sched.proofs.Upcoming.{next_is, next_at, next_later, upcoming, exclusive_body, exclusive_cleanup, covers}
use Rattle.kt_sched.proofs.Stages.{over_stage}
use Rattle.std.proofs.lemmas.Option.{same_Some}

abbrev pub Held : List Job → Trace → Option Job → Type 0
Held plan T o = MatchOption o ⊤ (λ job. (job.exclusive ≡ true) × (0 < active plan T))

module _ {plan : List Job} {n : ℕ} {fed : Responses} {b : SchedState} (h : RepresentsRun plan n fed b) where
  pub busy_where_held : has_failed fed ≡ false → HasNoTurn b → IsBusy plan n fed.trace
  busy_where_held f (inl e) = absurd (cc (h.puts.failed))
  busy_where_held f (inr (inl e)) =
      let d : drop b.turn (turns plan) ≡ [] = drop_of_length-le (turns plan) (turn_past h e) in
      inr (subst (Held plan fed.trace) (sym (next_is h ∙ ap (λ (ys : List Job). slice_get (filter is_undecided ys) 0) d)) tt)
  busy_where_held f (inr (inr (inl e))) = inl (omega (arith, active_is h, h.cases.most, h.cases.width_is))
  busy_where_held f (inr (inr (inr e))) = inr (by (next_to_start plan fed.trace) refl)
    where
      by : (o : Option Job) → next_to_start plan fed.trace ≡ o → Held plan fed.trace o
      by None q = tt
      by (Some job) q =
          let t = has_turn h e.1.0 e.1.1 in
          let m = next_later h job q in
          let s = turn_sorted plan b.turn (b.turn + m.0) t.job job t.turn m.1 (omega arith) (exclusive_is t e.1.2) in
          (s, omega (arith, e.0, active_is h))

  pub not_failed : (i : ℕ) → b.ready ≡ Some i → b.failed ≡ false
  not_failed i e = false_from_ne_true b.failed (λ f. cc (h.puts.stopped f, e))

  -- If no decided case can be put, no decided case is open from the turn on.
  pub nothing_opened : b.ready ≡ None → IsSettled b → has_failed fed ≡ false → allowed_puts plan n fed.trace b.turn ≡ []
  nothing_opened r s f = filter_none (is_put_allowed plan n fed.trace) (drop b.turn (turns plan)) (λ j x g. false_from_ne_true _ (λ e.
      let xs = turns plan in
      let y = sym (get_drop xs b.turn j) ∙ g in
      let w = within_some xs b.turn (omega (arith, slice_get_within xs (b.turn + j) x y)) in
      let o = first_open fed.trace b.turn h.cases.is_plan h.turn.starts (b.turn + j) w.0 x h.cases.room (omega arith) w.1 y e in
      closed w.0 w.1 o.0 o.1))
    where
      has_room : (job : Job) (c : Case) → slice_get b.cases job.position ≡ Some c → c.job ≡ job → (x : Bool) → job.exclusive ≡ x
          → (if x then active plan fed.trace == 0 else nat_lt (active plan fed.trace) n) ≡ true
          → (b.active < b.width) × (b.active ≡ 0 ⊎ HasExclusiveFlag b.cases job.position false)
      has_room job c k e true y m =
          let z : active plan fed.trace ≡ 0 = grind (arith, nat_tests, m) in
          let u : b.active ≡ 0 = omega (arith, z, active_is h) in
          (omega (arith, u, h.cases.width_is, h.cases.room), inl u)
      has_room job c k e false y m =
          let z : active plan fed.trace < n = grind (arith, nat_tests, m) in
          (omega (arith, z, active_is h, h.cases.width_is), inr (c, k, ap (λ (j : Job). j.exclusive) e ∙ y))

      closed : (job : Job) → slice_get (turns plan) b.turn ≡ Some job → is_decided job ≡ true → room_in (active plan fed.trace) n job ≡ true → ⊥
      closed job g d m =
          let t = has_turn h job.position (at_turn h b.turn job g) in
          let same = same_Some t.job job (sym t.turn ∙ g) in
          let room = has_room job t.case t.found (t.kept ∙ same) job.exclusive refl m in
          let u = upcoming h job.position r s (h.puts.failed ∙ f, at_turn h b.turn job g, room.0, room.1) in
          absurd (cc (ap is_some (ap (λ (j : Job). j.decided) (same_Some job u.0.job (sym g ∙ u.0.turn)) ∙ u.3), d))

  -- The next put is the put of the ready case, or else of the first open case.
  puts_scheduled_at : (rest : List ℕ) → has_failed fed ≡ false → option_to_list b.ready ++ positions (allowed_puts plan n fed.trace b.turn) ≡ rest
      → slice_get (recorded plan n fed.trace) fed.stored ≡ slice_get rest 0
  puts_scheduled_at rest f e = slice_get-drop (recorded plan n fed.trace) fed.stored ∙ ap (λ (xs : List ℕ). slice_get xs 0) (h.puts.ready f ∙ e)

  pub none_put : b.ready ≡ None → IsSettled b → has_failed fed ≡ false → slice_get (recorded plan n fed.trace) fed.stored ≡ None
  none_put e s f = puts_scheduled_at [] f (rw (e, nothing_opened e s f) refl)

  pub is_next : (q : Next) → IsSettled b → IsChosen b q → IsNext plan n fed q
  is_next (next.Put i) s c =
      let f : has_failed fed ≡ false = sym h.puts.failed ∙ not_failed i c in
      (f, puts_scheduled_at (i ∷ positions (allowed_puts plan n fed.trace b.turn)) f (rw c refl))
  is_next (next.Start i Cleanup) s c = (none_put c.0 s, sym h.cases.pending_is ∙ c.1)
  is_next (next.Start i Body) s c =
      let f : has_failed fed ≡ false = sym h.puts.failed ∙ c.2.0 in
      let t = upcoming h i c.0 s c.2 in
      let may : MayStartBody plan n fed.trace i = record {
        job = t.0.job;
        next = next_at h t.0.job t.0.turn t.3;
        place = t.0.at;
        room = omega (arith, active_is h, c.2.2, h.cases.width_is);
        exclusive = exclusive_body h i c.2.1 c.2.3;
      } in
      (f, none_put c.0 s f, sym h.cases.pending_is ∙ c.1, may)
  is_next next.Wait s c = (none_put c.0 s, sym h.cases.pending_is ∙ c.1, λ f. busy_where_held f c.3, something_runs h c.1 c.2)
  is_next next.Done s c = (none_put c.0 s, sym h.cases.pending_is ∙ c.1, λ f. busy_where_held f c.3, nothing_runs h c.2)

  -- A case that isn't taken has the job of the plan.
  pub job_is : (i : ℕ) (c : Case) → slice_get b.cases i ≡ Some c → c.stage ≢ Taken → slice_get plan i ≡ Some c.job
  job_is i c g t = let l = located h i c.job c.stage g in l.place ∙ ap Some (sym (l.kept t))

  -- A case that is to be started isn't taken.
  pub untaken_start : (i : ℕ) (r : Role) → IsSettled b → IsChosen b (next.Start i r) → IsNotTaken b.cases i
  untaken_start i Body s c = let u = upcoming h i c.0 s c.2 in (u.0.case, u.0.found, λ x. absurd (cc (u.1, x)))
  untaken_start i Cleanup s c = let w = owes h i c.1 in (record { job = w.0; stage = PendingCleanup w.1 }, w.2, λ t. absurd (cc))

  -- If no case is active, each case has no event or a whole history.
  part_whole : b.active ≡ 0 → (i : ℕ) (job : Job) → slice_get plan i ≡ Some job → (events_of i fed.trace ≡ []) ⊎ (has_whole_history fed.trace job ≡ true)
  part_whole a i job g =
      let s = h.cases.each i job g in
      by s.case.stage s.stage (λ w. (says_at h i job g).whole ∙ over_stage s.case.stage w (inactive h i s.case a s.found))
    where
      by : (stage : Stage) → IsStage i job stage (events_of i fed.trace) → (stage ≢ Waiting → has_whole_history fed.trace job ≡ true)
          → (events_of i fed.trace ≡ []) ⊎ (has_whole_history fed.trace job ≡ true)
      by Waiting x w = inl x.0
      by stage x w = inr (w (λ e. absurd (cc (e))))

  -- If no case is active, none can be started and no put failed, then the turn is past all cases.
  past : b.active ≡ 0 → HasNoTurn b → has_failed fed ≡ false → length (turns plan) ≤ b.turn
  past a (inl e) f = absurd (cc (h.puts.failed))
  past a (inr (inl e)) f = turn_past h e
  past a (inr (inr (inl e))) f = absurd (omega (arith, a, e, h.cases.width_is, h.cases.room))
  past a (inr (inr (inr e))) f = absurd (omega (arith, a, e.0))

  whole_each : b.active ≡ 0 → length (turns plan) ≤ b.turn → (i : ℕ) (job : Job) → slice_get plan i ≡ Some job → has_whole_history fed.trace job ≡ true
  whole_each a l i job g =
      let s = h.cases.each i job g in
      let c = covers h i job g in
      let m : c.0 < b.turn = omega (arith, slice_get_within (turns plan) c.0 job c.1) in
      (says_at h i job g).whole ∙ over_stage s.case.stage ((h.turn.met c.0 i s.case c.2 s.found).1 m) (inactive h i s.case a s.found)

  were_open : has_failed fed ≡ false → length (turns plan) ≤ b.turn → WerePutsAllowed plan n fed.trace
  were_open f l i job g d =
      let c = covers h i job g in (h.puts.gone f).gone c.0 job (omega (arith, l, slice_get_within (turns plan) c.0 job c.1)) c.1 d

  -- The consequences of the chosen step hold.
  pub follows : (q : Next) → IsSettled b → IsChosen b q → HasStepFacts plan n fed q
  follows (next.Put i) s c = tt
  follows (next.Start i Body) s c =
      let u = upcoming h i c.0 s c.2 in
      let e : history i fed.trace ≡ [] = ap (map kind_of_event) u.2 in
      (record { job = u.0.job; place = u.0.place; unfinished = ap (is_whole u.0.job) e ∙ ap is_some u.3; exclusive = exclusive_body h i c.2.1 c.2.3 }, e)
  follows (next.Start i Cleanup) s c =
      let w = owes h i c.1 in
      let l = located h i w.0 (PendingCleanup w.1) w.2 in (
        record { job = l.job; place = l.place; unfinished = l.says.whole; exclusive = exclusive_cleanup h i (sym h.cases.pending_is ∙ c.1) },
        ap (map kind_of_event) l.stands.1 ∙ ap (λ (r : Role). BodyStarted ∷ end_kind r ∷ []) l.stands.2,
      )
  follows next.Wait s c =
      let x = something_runs h c.1 c.2 in
      let r = runs_stage h x.0 x.1 x.2 in
      let j = within_some plan x.0 (omega (arith, slice_get_within b.cases x.0 r.0 r.1, h.cases.count)) in
      (x.0, x.1, j.0, x.2, j.1)
  follows next.Done s c =
      (part_whole c.2, λ f. let l = past c.2 c.3 f in (list_all_from (has_whole_history fed.trace) plan (whole_each c.2 l), were_open f l))

  asked_for : (q : Next) → IsSettled b → IsChosen b q → HasRequested (record b { asked = q }) q
  asked_for (next.Put i) s c = (not_failed i c, c)
  asked_for (next.Start i Cleanup) s c = (c.0, c.1, s)
  asked_for next.Done s c = tt
  asked_for q s c = (c.0, c.1, c.2, s)

  not_done : (q : Next) (i : ℕ) → IsChosen b q → b.ready ≡ Some i → q ≢ next.Done
  not_done next.Done i c e d = absurd (cc (c.0, e))
  not_done q i c e d = absurd (cc)

  -- The state with the chosen step as the last requested step represents the same plan, width and
  -- responses.
  pub stands_asked : (q : Next) → IsSettled b → IsChosen b q → RepresentsRun plan n fed (record b { asked = q })
  stands_asked q s c =
      record { cases = h.cases; turn = h.turn; puts = h.puts; has_record = λ i e d. absurd (not_done q i c e d); asked = asked_for q s c }

-- If a body may begin, the run isn't busy.
busy_not : (plan : List Job) (n : ℕ) (T : Trace) (i : ℕ) → IsPlan plan → MayStartBody plan n T i → IsBusy plan n T → ⊥
busy_not plan n T i p m (inl e) = absurd (omega (arith, e, m.room))
busy_not plan n T i p m (inr h) =
    let w = subst (λ (o : Option Job). MatchOption o ⊤ (λ job. (job.exclusive ≡ true) × (0 < active plan T))) m.next h in
    let t = filter_in (λ (job : Job). is_none job.decided) (turns plan) (length (body_starts T)) m.job m.next in
    let q = m.exclusive.quiet m.job (ap (slice_get plan) (sym m.place) ∙ turn_inside plan p.placed t.0 m.job t.1) w.0 refl in
    absurd (omega (arith, w.1, q.0))

pub only_next : (plan : List Job) (n : ℕ) (fed : Responses) (a b : Next) → IsPlan plan → IsNext plan n fed a → IsNext plan n fed b → a ≡ b
only_next plan n fed (next.Put i) (next.Put j) p x y = ap next.Put (same_Some i j (sym x.1 ∙ y.1))
only_next plan n fed (next.Put i) (next.Start j Body) p x y = absurd (cc (x.1, y.1))
only_next plan n fed (next.Put i) b p x y = absurd (cc (x.1, y.0 x.0))
only_next plan n fed (next.Start i Body) (next.Put j) p x y = absurd (cc (x.1, y.1))
only_next plan n fed a (next.Put j) p x y = absurd (cc (y.1, x.0 y.0))
only_next plan n fed (next.Start i Body) (next.Start j Body) p x y =
    let same = same_Some x.3.job y.3.job (sym x.3.next ∙ y.3.next) in
    ap (λ (k : ℕ). next.Start k Body) (sym x.3.place ∙ (ap (λ (job : Job). job.position) same ∙ y.3.place))
only_next plan n fed (next.Start i Body) (next.Start j Cleanup) p x y = absurd (cc (x.2, y.1))
only_next plan n fed (next.Start i Cleanup) (next.Start j Body) p x y = absurd (cc (x.1, y.2))
only_next plan n fed (next.Start i Cleanup) (next.Start j Cleanup) p x y = ap (λ (k : ℕ). next.Start k Cleanup) (same_Some i j (sym x.1 ∙ y.1))
only_next plan n fed (next.Start i Body) b p x y = absurd (busy_not plan n fed.trace i p x.3 (y.2 x.0))
only_next plan n fed a (next.Start j Body) p x y = absurd (busy_not plan n fed.trace j p y.3 (x.2 y.0))
only_next plan n fed next.Wait next.Wait p x y = refl
only_next plan n fed next.Wait next.Done p x y = absurd (cc (x.3.2, y.3 x.3.0 x.3.1))
only_next plan n fed next.Done next.Wait p x y = absurd (cc (y.3.2, x.3 y.3.0 y.3.1))
only_next plan n fed next.Done next.Done p x y = refl
only_next plan n fed a b p x y = absurd (cc (x.1, y.1))
