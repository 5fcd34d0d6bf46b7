-- The run loop: its invariant, and how each response keeps it.
use Rattle.kt_base.specs.Kinds.{good as is_good}
use Rattle.kt_sched.proofs.Common.{Bool, option_map, Option, Some, None, is_some, not, Ok, Err, ◌^◌, ◌≡◌, ◌<◌, ℕ, ◌+◌, ◌-◌, true, false, if◌then◌else◌, ◌==◌, List, [], ◌∷◌, ◌++◌, refl, append-nil, append_assoc, length-append, count_by-le-length, false_from_ne_true, filter, take, length, slice_get, slice_get_within, sym, ◌∙◌, ap, subst, arith, Role, Body, Cleanup, Entry, Job, StartAnswer, Ended, SinkFault, Totals, Child, IsEvidence, IsIdle, IsMoment, HasValidTimestamp, MayStart, IsPlan, IsEntryOf, AreEntries, IsStorable, Start, End, HoldsAtEachEvent, FitsAt, Trace, event_count, pending_cleanup, is_pending_case, history, is_whole, runs, turns, recorded, ScheduledPut, scheduled_puts, is_put_allowed, running_after_start, running_after_end, pending_after_start, pending_after_end, child_of, CanCount, counted, HasFailedPut, Responses, responses_after_put, no_responses, IsNext, HasStepFacts, NoEvent, Case, HoldsForEachRun, SchedState, RepresentsRun, RecordsEvent, stage_runs, Then}
use Rattle.kt_sched.specs.declared.next.Next.TheVariants as next
use Rattle.kt_sched.specs.declared.launcher.Launcher as launcher
use Rattle.kt_sched.specs.declared.sink.Sink as sink
use Rattle.kt_sched.proofs.Lists.{mapped_at, take_snoc}
use Rattle.kt_sched.proofs.Located.{runs_stage}
use Rattle.kt_sched.proofs.Stages.{whole_quiet}
use Rattle.kt_sched.proofs.Runs.{Going, Startable, Until, child_at, cleared, each_of, end_owes, end_runs, running_of, runs_now, runs_true, start_runs, until_more, until_now, while_runs}
use Rattle.kt_sched.proofs.Gaining.{Gained, GainsUpTo, counts_more, due_put, entries_more, gained_event, gains_more, storable_entry}
use Rattle.kt_sched.proofs.Once.{recorded_first, recorded_most}
use Rattle.std.proofs.lemmas.Option.{same_Some}
use Rattle.kt_base.proofs.Lists.{same_number}

-- `Loop l s plan n old before sched new after totals fault`: the invariant of the run loop of
-- `plan` with the width `n`. The scheduler `sched`, the launcher `l` (from `old` to `new`) and the
-- sink `s` (from `before` to `after`) represent the same responses. `totals` counts the entries
-- that were put, and `fault` is the error of the failed put, if any.
pub record Loop {L S : Type 0} (l : launcher.Ghosts L) (s : sink.Ghosts S) (plan : List Job) (n : ℕ) (old : L) (before : S) (sched : SchedState) (new : L)
    (after : S) (totals : Totals) (fault : Option SinkFault) : Type 0 where
  pub fed : Responses
  pub stands : RepresentsRun plan n fed sched
  pub going : Going l plan n fed.trace old new
  pub until : Until plan n fed.failed_put_after fed.trace
  pub gained : Gained s plan n fed totals fault before after
  pub asked : sched.asked ≡ next.Done

module _ {L S : Type 0} (l : launcher.Ghosts L) (s : sink.Ghosts S) (plan : List Job) (n : ℕ) (old : L) (before : S) where
  pub loop_first : (sched : SchedState) (totals : Totals) → RepresentsRun plan n no_responses sched → sched.asked ≡ next.Done → IsIdle (l.running old) (l.pending old)
      → totals ≡ record { total = 0; good = 0; bad = 0 } → Loop l s plan n old before sched old before totals None
  loop_first sched totals h a i t = record {
    fed = no_responses;
    stands = h;
    going = record { leads = refl; runs = none_runs; owes = i.pends; rules = tt };
    until = record { busy = tt; begun = refl; passed = tt };
    gained = record {
      gained = [];
      count = refl;
      are = tt;
      kept = λ put h. subst (s.entries before) (sym (append-nil put)) h;
      gains = (refl, refl, λ j p l g. due_put 0 (filter (is_put_allowed plan n NoEvent) (turns plan)) j p g);
      counts = record { total = rw t refl; good = rw t refl; bad = rw t refl };
      recorded = recorded_first plan n;
    };
    asked = a;
  }
    where
      none_runs : (k : ℕ) (r : Role) → l.running old k r ≡ running_of plan NoEvent k r
      none_runs k Body = i.runs k Body
      none_runs k Cleanup = i.runs k Cleanup

module _ {L S : Type 0} {l : launcher.Ghosts L} {s : sink.Ghosts S} {plan : List Job} {n : ℕ} {old : L} {before : S} {sched : SchedState} {mid : L} {after : S}
    {totals : Totals} {fault : Option SinkFault} (p : IsPlan plan) (k : Loop l s plan n old before sched mid after totals fault) where
  abbrev fed : Responses
  fed = k.fed

  abbrev T : Trace
  T = k.fed.trace

  pub fits : HoldsAtEachEvent (FitsAt plan) T
  fits = each_of T (λ U e y. y.fits) k.going.rules

  pub owes : {o : Option ℕ} → pending_cleanup plan T ≡ o → (j : ℕ) → l.pending mid j ≡ is_pending_case o j
  owes e j = k.going.owes j ∙ ap (λ (o : Option ℕ). is_pending_case o j) e

  -- The launcher may start the job of the next step.

  startable : (i : ℕ) (role : Role) → IsNext plan n fed (next.Start i role) → HasStepFacts plan n fed (next.Start i role)
      → Startable (l.running mid) (l.pending mid) plan n fed i role
  startable i Body x f = let none = λ (r : Role). k.going.runs i r ∙ runs_now plan T i r [] f.1 in record {
    may = (none Body, none Cleanup, owes x.2 i);
    now = f.0;
    history_is = f.1;
    clears = owes x.2;
    fair = λ a m. record { fits = m; width = x.3.room; exclusive = x.3.exclusive; prompt = rw x.2 tt };
    quiet = λ a z. absurd (cc (x.0, z));
    due = λ z. x.1;
  }
  startable i Cleanup x f = record {
    may = owes x.1 i ∙ same_number i;
    now = f.0;
    history_is = f.1;
    clears = λ j. ap (λ y. if j == i then false else y) (owes x.1 j) ∙ cleared i j;
    fair = λ a m. record { fits = m; width = tt; exclusive = f.0.exclusive; prompt = rw x.1 (refl, refl) };
    quiet = λ a z. refl;
    due = x.0;
  }

  module _ (i : ℕ) (role : Role) (x : HoldsForEachRun sched (λ plan n fed. IsNext plan n fed (next.Start i role)))
      (f : HoldsForEachRun sched (λ plan n fed. HasStepFacts plan n fed (next.Start i role)))
      (b : SchedState) (y : HoldsForEachRun sched (λ plan n fed. RepresentsRun plan n fed b)) (job : Job) (g : HoldsForEachRun b (λ plan n fed. slice_get plan i ≡ Some job)) where
    place : slice_get plan i ≡ Some job
    place = g plan n fed (y plan n fed k.stands)

    t : Startable (l.running mid) (l.pending mid) plan n fed i role
    t = startable i role (x plan n fed k.stands) (f plan n fed k.stands)

    pub loop_may_start : (j : ℕ) → job.position ≡ j → MayStart (l.running mid) (l.pending mid) j role
    loop_may_start j e = subst (λ j. MayStart (l.running mid) (l.pending mid) j role) (sym (p.placed i job place) ∙ e) t.may

    pub loop_start : (a : StartAnswer) (new : L) (later : SchedState) → l.starts mid job role a new → HasValidTimestamp a
        → ((k : ℕ) (r : Role) → l.running new k r ≡ running_after_start (l.running mid) job role a k r)
        → ((k : ℕ) → l.pending new k ≡ pending_after_start (l.pending mid) job.position role k) → RecordsEvent b (Start i role a) later
        → Loop l s plan n old before later new after totals fault
    loop_start a new later w m u v z = record {
      fed = record fed { trace = Then fed.trace (Start i role a) };
      stands = z.stands plan n fed (y plan n fed k.stands);
      going = record {
        leads = (mid, job, k.going.leads, place, w);
        runs = λ j r. u j r ∙ start_runs plan T (l.running mid) k.going.runs i job role r place (p.placed i job place) t.history_is a j;
        owes = λ j. v j ∙ (ap (λ y. pending_after_start (l.pending mid) y role j) (p.placed i job place) ∙ t.clears j);
        rules = (k.going.rules, t.fair a m);
      };
      until = until_more plan n fed.failed_put_after T (Start i role a) k.until (λ z. tt) (t.quiet a);
      gained = gained_event k.gained (Start i role a) p k.stands.puts.stored t.due
          (λ y g. ap (λ (y : Job). is_whole y (history i T)) (same_Some y t.now.job (sym g ∙ t.now.place)) ∙ t.now.unfinished);
      asked = z.asked;
    }

  -- If the next step is a wait, a child runs.

  pub loop_may_wait : HoldsForEachRun sched (λ plan n fed. HasStepFacts plan n fed next.Wait) → (i : ℕ) × (role : Role) × (child : Child) × (l.running mid i role ≡ Some child)
  loop_may_wait f =
      let w = f plan n fed k.stands in
      let shown = ap (λ (b : Bool). if b then child_at plan w.0 else None) w.3 ∙ ap (option_map child_of) w.4 in
      (w.0, w.1, child_of w.2, k.going.runs w.0 w.1 ∙ shown)

  module _ (e : Ended) (w : (child : Child) × (l.running mid e.position e.role ≡ Some child) × IsEvidence child.interface e.role e.evidence) (b : SchedState)
      (y : HoldsForEachRun sched (λ plan n fed. RepresentsRun plan n fed b)) where
    -- The child that ended is a child of the plan.
    one : (runs e.position e.role T ≡ true) × ((job : Job) × (slice_get plan e.position ≡ Some job) × (w.0 ≡ child_of job))
    one = runs_true plan T e.position e.role w.0 (sym (k.going.runs e.position e.role) ∙ w.1)

    pub loop_runs : (c : Case) × (slice_get b.cases e.position ≡ Some c) × (stage_runs e.role c.stage ≡ true)
    loop_runs = runs_stage (y plan n fed k.stands) e.position e.role one.0

    pub loop_end : (new : L) (later : SchedState) → HoldsForEachRun sched (λ plan n fed. IsNext plan n fed next.Wait) → l.waits mid e new → IsMoment e.moment
        → ((k : ℕ) (r : Role) → l.running new k r ≡ running_after_end (l.running mid) e k r)
        → ((k : ℕ) → l.pending new k ≡ pending_after_end (l.running mid) (l.pending mid) e k)
        → RecordsEvent b (End e) later → Loop l s plan n old before later new after totals fault
    loop_end new later wait v m u o z = let ran = while_runs e.role (history e.position T) one.0 in let x = wait plan n fed k.stands in record {
      fed = record fed { trace = Then fed.trace (End e) };
      stands = z.stands plan n fed (y plan n fed k.stands);
      going = record {
        leads = (mid, k.going.leads, v);
        runs = λ j r. u j r ∙ end_runs plan T (l.running mid) k.going.runs e j ran r;
        owes = λ j. o j ∙ end_owes plan T (l.running mid) k.going.runs e j ran (l.pending mid) (owes x.1 j);
        rules =
            let y = subst (λ (c : Child). IsEvidence c.interface e.role e.evidence) one.1.2 w.2 in
            (k.going.rules, record { fits = (m, (one.1.0, one.1.1, y)); width = tt; exclusive = tt; prompt = rw x.1 tt });
      };
      until = until_more plan n fed.failed_put_after T (End e) k.until x.2 (λ y. refl);
      gained = gained_event k.gained (End e) p k.stands.puts.stored x.0
          (λ job g. false_from_ne_true _ (λ y. cc (whole_quiet job e.role (history e.position T) y, one.0)));
      asked = z.asked;
    }

  -- The put of an entry that was taken.

  module _ (i : ℕ) (put_next : HoldsForEachRun sched (λ plan n fed. IsNext plan n fed (next.Put i))) where
    x : IsNext plan n fed (next.Put i)
    x = put_next plan n fed k.stands

    pub loop_can_count : length plan < 2 ^ 64 → CanCount totals (2 ^ 64 - 1)
    loop_can_count r = let g = k.gained in record {
      total = omega (arith, g.counts.total, r, g.count, slice_get_within (recorded plan n T) fed.stored i x.1, recorded_most plan n T g.recorded);
      good = omega (arith, g.counts.total, g.counts.good, count_by-le-length (λ (e : Entry). is_good e.verdict.kind) g.gained);
      bad = omega (arith, g.counts.total, g.counts.bad, count_by-le-length (λ (e : Entry). not (is_good e.verdict.kind)) g.gained);
    }

    module _ (b : SchedState) (y : HoldsForEachRun sched (λ plan n fed. RepresentsRun plan n fed b)) (e : Entry) (v : HoldsForEachRun b (λ plan n fed. IsEntryOf plan fed.trace i e)) where
      w : IsEntryOf plan T i e
      w = v plan n fed (y plan n fed k.stands)

      pub loop_storable : IsStorable e
      loop_storable = storable_entry plan T i e fits w

      module _ (c later : SchedState) (taken : HoldsForEachRun b (λ plan n fed. RepresentsRun plan n fed c)) (d : later.asked ≡ next.Done)
          (new : S) where
        now : RepresentsRun plan n fed c
        now = taken plan n fed (y plan n fed k.stands)

        pub loop_put : (more : Totals) → more ≡ counted totals e.verdict.kind → s.puts after e (Ok tt) new
            → ((put : List Entry) → s.entries after put → s.entries new (put ++ e ∷ []))
            → HoldsForEachRun c (λ plan n fed. RepresentsRun plan n (responses_after_put fed false) later) → Loop l s plan n old before later mid new more fault
        loop_put more m u o z = let g = k.gained in record {
          fed = responses_after_put fed false;
          stands = z plan n fed now;
          going = k.going;
          until = k.until;
          gained = record {
            gained = g.gained ++ e ∷ [];
            count = length-append g.gained (e ∷ []) ∙ ap (λ j. j + 1) g.count;
            are = subst (λ (ps : List ℕ). AreEntries plan T ps (g.gained ++ e ∷ [])) (sym (take_snoc (recorded plan n T) fed.stored i x.1))
                (entries_more plan T (take fed.stored (recorded plan n T)) g.gained i e g.are w);
            kept = λ put y. subst (s.entries new) (append_assoc put g.gained (e ∷ [])) (o (put ++ g.gained) (g.kept put y));
            gains = by fault g.gains;
            counts = rw m (counts_more g.gained e totals g.counts);
            recorded = g.recorded;
          };
          asked = d;
        }
          where
            by : (fault : Option SinkFault) → GainsUpTo s.puts plan n fed k.gained.gained fault before after
                → GainsUpTo s.puts plan n (record fed { stored = fed.stored + 1 }) (k.gained.gained ++ e ∷ []) fault before new
            by None y = (y.0, gains_more s.puts k.gained.gained e before after new y.1 u, λ j q l z. y.2 j q (omega (arith, l)) z)
            by (Some fault) y = absurd (cc (x.0, ap is_some y.1))

        -- The invariant holds after a put that failed.
        pub loop_failed : (cause : SinkFault) → s.puts after e (Err cause) new → ((put : List Entry) → s.entries after put → s.entries new put)
            → HoldsForEachRun c (λ plan n fed. RepresentsRun plan n (responses_after_put fed true) later)
            → Loop l s plan n old before later mid new totals (Some cause)
        loop_failed cause u o z = let g = k.gained in record {
          fed = responses_after_put fed true;
          stands = z plan n fed now;
          going = k.going;
          until = until_now plan n fed.failed_put_after T x.0 k.until;
          gained = record {
            gained = g.gained;
            count = g.count;
            are = g.are;
            kept = λ put y. o (put ++ g.gained) (g.kept put y);
            gains = by fault g.gains;
            counts = g.counts;
            recorded = g.recorded;
          };
          asked = d;
        }
          where
            by : (fault : Option SinkFault) → GainsUpTo s.puts plan n fed k.gained.gained fault before after
                → GainsUpTo s.puts plan n (record fed { failed_put_after = Some (event_count T) }) k.gained.gained (Some cause) before new
            by None y =
                let m = mapped_at (λ (q : ScheduledPut). q.position) (scheduled_puts plan n T) fed.stored i x.1 in
                let one : HasFailedPut s.puts plan n T k.gained.gained cause before new = record {
                  next = m.0;
                  is_next = ap (slice_get (scheduled_puts plan n T)) k.gained.count ∙ m.1;
                  refused = e;
                  refused_is = subst (λ (k : ℕ). IsEntryOf plan T k e) (sym m.2) w;
                  mid = after;
                  gains = y.1;
                  fails = u;
                } in
                (one, ap Some (sym (y.2 fed.stored m.0 (omega arith) m.1)))
            by (Some fault) y = absurd (cc (x.0, ap is_some y.1))
