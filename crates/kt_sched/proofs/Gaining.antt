-- The entries that a sink gains.
use Rattle.kt_base.specs.Kinds.{good as is_good}
use Rattle.kt_sched.specs.declared.sink.Sink as sink
use Rattle.kt_sched.specs.EntryOf as recorded
use Rattle.kt_sched.proofs.Common.{slice_get, filter, Option, Some, None, map, Result, Ok, is_some, not, ◌≡◌, ◌≢◌, ℕ, ◌≤◌, ◌⊎◌, false, List, [], ◌∷◌, ◌++◌, length, take, refl, sym, ◌∙◌, ap, subst, arith, length-append, inl, inr, length-map, map-append, take-append-le, cases_eq, slice_get_within, Entry, Job, SinkFault, Totals, Event, Trace, Then, position_of, event_count, kind_of_event, history, is_whole, turns, ScheduledPut, scheduled_puts, puts_scheduled_at, jobs_finished_by, recorded, IsEntry, PutsInOrder, IsEntryOf, AreEntries, IsPlan, Responses, has_failed, IsUpToDate, counted, HasFailedPut, Counts, if◌then◌else◌, true, cases_lt, events_of, EventKind, BodyStarted, BodyRefused, BodyEnded, CleanupStarted, CleanupRefused, CleanupEnded, has_whole_history, AreWhole, WerePutsAllowed, NamesEachOnce, list_all, ◌==◌, Bool, ⊤, Start, End, NoEvent, HoldsAtEachEvent, IsMoment, IsStorable, HasValidTimestamp, FitsAt}
use Rattle.kt_sched.proofs.Lists.{in_append, append_left, count-cons, count_by-append, mapped_at, none_past, list_all_at, within_some}
use Rattle.kt_sched.proofs.Turns.{of_other, opens_now}
use Rattle.kt_sched.proofs.Once.{NotWhole, Recorded, recorded_event, is_done, names_once}

pub entries_more : (plan : List Job) (T : Trace) (ps : List ℕ) (es : List Entry) (p : ℕ) (e : Entry) → AreEntries plan T ps es → IsEntryOf plan T p e
    → AreEntries plan T (ps ++ p ∷ []) (es ++ e ∷ [])
entries_more plan T [] [] p e h x = (x, tt)
entries_more plan T (q ∷ ps) (f ∷ es) p e h x = (h.0, entries_more plan T ps es p e h.1 x)
entries_more plan T ps es p e h x = absurd h

pub gains_more : {S : Type 0} (puts : S → Entry → Result (Unit {0}) SinkFault → S → Type 0) (es : List Entry) (e : Entry) (first last new : S)
    → PutsInOrder puts es first last → puts last e (Ok tt) new → PutsInOrder puts (es ++ e ∷ []) first new
gains_more puts [] e first last new h x = (new, subst (λ s. puts s e (Ok tt) new) h x, refl)
gains_more puts (f ∷ es) e first last new h x = (h.0, h.1, gains_more puts es e h.0 last new h.2 x)

pub counts_more : (es : List Entry) (e : Entry) (t : Totals) → Counts es t → Counts (es ++ e ∷ []) (counted t e.verdict.kind)
counts_more es e t h =
    let p = λ (x : Entry). is_good x.verdict.kind in
    let q = λ (x : Entry). not (is_good x.verdict.kind) in
    record {
      total = omega (arith, h.total, length-append es (e ∷ []));
      good = omega (arith, h.good, count_by-append p es (e ∷ []), count-cons p e []);
      bad = omega (arith, h.bad, count_by-append q es (e ∷ []), count-cons q e []);
    }

abbrev due_of : ℕ → Job → ScheduledPut
due_of k job = record { position = job.position; after = k }

-- Each put that is scheduled after `k` events has `k` as its number of events.
pub due_put : (k : ℕ) (jobs : List Job) (j : ℕ) (p : ScheduledPut) → slice_get (puts_scheduled_at k jobs) j ≡ Some p → p.after ≡ k
due_put k jobs j p g = ap (λ (q : ScheduledPut). q.after) (sym (mapped_at (due_of k) jobs j p g).2)

-- `added plan n T e`: the puts that the event `e` after the events `T` schedules, in the run of
-- `plan` with the width `n`.
abbrev added : List Job → ℕ → Trace → Event → List ScheduledPut
added plan n T e = puts_scheduled_at (event_count (Then T e)) (jobs_finished_by plan T e) ++ puts_scheduled_at (event_count (Then T e)) (filter (opens_now plan n T e) (turns plan))

-- Lemmas for an event `e` of a case whose history isn't whole.
module _ (plan : List Job) (T : Trace) (e : Event) (h : NotWhole plan T (position_of e)) where
  entry_stays : (p : ℕ) (x : Entry) → IsEntryOf plan T p x → (p ≡ position_of e) ⊎ (p ≢ position_of e) → IsEntryOf plan (Then T e) p x
  entry_stays p x w (inl q) = absurd (cc (h w.job (ap (slice_get plan) (sym q) ∙ w.place), ap (λ j. is_whole w.job (history j T)) (sym q) ∙ w.whole))
  entry_stays p x w (inr q) =
      let o = of_other (position_of e) p T e refl q in
      record {
        job = w.job;
        place = w.place;
        whole = ap (λ (es : List Event). is_whole w.job (map kind_of_event es)) o ∙ w.whole;
        entry_is = subst (λ (es : List Event). IsEntry w.job es x) (sym o) w.entry_is;
      }

  entries_stay : (ps : List ℕ) (es : List Entry) → AreEntries plan T ps es → AreEntries plan (Then T e) ps es
  entries_stay [] [] x = tt
  entries_stay (p ∷ ps) (y ∷ es) x = (entry_stays p y x.0 (cases_eq p (position_of e)), entries_stay ps es x.1)
  entries_stay ps es x = absurd x

-- `AreDue plan n fed`: in the run of `plan` with the width `n`, each put that isn't stored yet is
-- scheduled after the last event of the responses `fed`.
abbrev pub AreDue : List Job → ℕ → Responses → Type 0
AreDue plan n fed = (j : ℕ) (p : ScheduledPut) → fed.stored ≤ j → slice_get (scheduled_puts plan n fed.trace) j ≡ Some p → p.after ≡ event_count fed.trace

-- `GainsUpTo puts plan n fed gained fault before after`: in the run of `plan` with the width `n`,
-- the puts among the responses `fed` lead the sink from `before` to `after`. They are the puts of
-- the entries `gained` and the put that failed with `fault`, if any. `puts` is the relation of a
-- put.
abbrev pub GainsUpTo : {S : Type 0} → (S → Entry → Result (Unit {0}) SinkFault → S → Type 0) → List Job → ℕ → Responses → List Entry → Option SinkFault → S → S
    → Type 0
GainsUpTo puts plan n fed gained None before after = (fed.failed_put_after ≡ None) × PutsInOrder puts gained before after × AreDue plan n fed
GainsUpTo puts plan n fed gained (Some fault) before after = (f : HasFailedPut puts plan n fed.trace gained fault before after) × (fed.failed_put_after ≡ Some f.next.after)

-- `Gained s plan n fed totals fault before after`: in the run of `plan` with the width `n`, the
-- puts among the responses `fed` lead the sink from `before` to `after`. `totals` counts the gained
-- entries, and `fault` is the error of the last put, if it failed. `s` are the relations of the
-- sink.
pub record Gained {S : Type 0} (s : sink.Ghosts S) (plan : List Job) (n : ℕ) (fed : Responses) (totals : Totals) (fault : Option SinkFault)
    (before after : S) : Type 0 where
  pub gained : List Entry
  pub count : length gained ≡ fed.stored
  pub are : AreEntries plan fed.trace (take fed.stored (recorded plan n fed.trace)) gained
  pub kept : (put : List Entry) → s.entries before put → s.entries after (put ++ gained)
  pub gains : GainsUpTo s.puts plan n fed gained fault before after
  pub counts : Counts gained totals
  pub recorded : Recorded plan n fed.trace

module _ {S : Type 0} {s : sink.Ghosts S} {plan : List Job} {n : ℕ} {fed : Responses} {totals : Totals} {fault : Option SinkFault} {before mid : S}
    (g : Gained s plan n fed totals fault before mid) where
  -- The gained entries remain after an event, if all earlier puts were stored.
  pub gained_event : (ev : Event) → IsPlan plan → fed.stored ≤ length (recorded plan n fed.trace) → (has_failed fed ≡ false → IsUpToDate plan n fed)
      → NotWhole plan fed.trace (position_of ev) → Gained s plan n (record fed { trace = Then fed.trace ev }) totals fault before mid
  gained_event ev p within z h =
      let T = fed.trace in
      let xs = recorded plan n T in
      let m : recorded plan n (Then T ev) ≡ xs ++ map (λ (p : ScheduledPut). p.position) (added plan n T ev) = map-append (λ (p : ScheduledPut). p.position) (scheduled_puts plan n T)
      (added plan n T ev) in
      let e : take fed.stored (recorded plan n (Then T ev)) ≡ take fed.stored xs = ap (take fed.stored) m ∙ take-append-le fed.stored xs _ within in
      record {
        gained = g.gained;
        count = g.count;
        are = subst (λ (ps : List ℕ). AreEntries plan (Then T ev) ps g.gained) (sym e) (entries_stay plan T ev h (take fed.stored xs) g.gained g.are);
        kept = g.kept;
        gains = by fault g.gains;
        counts = g.counts;
        recorded = recorded_event plan n T ev p h g.recorded;
      }
    where
      by : (fault : Option SinkFault) → GainsUpTo s.puts plan n fed g.gained fault before mid
          → GainsUpTo s.puts plan n (record fed { trace = Then fed.trace ev }) g.gained fault before mid
      by None w =
          let k = event_count (Then fed.trace ev) in
          let xs = jobs_finished_by plan fed.trace ev in
          let ys = filter (opens_now plan n fed.trace ev) (turns plan) in
          let late = none_past (recorded plan n fed.trace) fed.stored (z (ap is_some w.0)) in
          let same = length-map (scheduled_puts plan n fed.trace) (λ (p : ScheduledPut). p.position) in (
            w.0,
            w.1,
            λ j p l x. elim (in_append (scheduled_puts plan n fed.trace) (added plan n fed.trace ev) j p x) [
              | inl u ↦ absurd (omega (arith, l, late, same, slice_get_within (scheduled_puts plan n fed.trace) j p u))
              | inr u ↦ due_put k (xs ++ ys) u.0 p (ap (λ (ps : List ScheduledPut). slice_get ps u.0) (map-append (due_of k) xs ys) ∙ u.2)
            ],
          )
      by (Some fault) w =
          let f = w.0 in
          let one : HasFailedPut s.puts plan n (Then fed.trace ev) g.gained fault before mid = record {
            next = f.next;
            is_next = append_left (scheduled_puts plan n fed.trace) (added plan n fed.trace ev) (length g.gained) f.next f.is_next;
            refused = f.refused;
            refused_is = entry_stays plan fed.trace ev h f.next.position f.refused f.refused_is (cases_eq f.next.position (position_of ev));
            mid = f.mid;
            gains = f.gains;
            fails = f.fails;
          } in
          (one, w.1)

whole_short : (job : Job) (w : List EventKind) → is_whole job w ≡ true → length w ≤ 4
whole_short job [] e = omega arith
whole_short job (BodyRefused ∷ []) e = omega arith
whole_short job (BodyStarted ∷ BodyEnded ∷ []) e = omega arith
whole_short job (BodyStarted ∷ BodyEnded ∷ CleanupRefused ∷ []) e = omega arith
whole_short job (BodyStarted ∷ BodyEnded ∷ CleanupStarted ∷ CleanupEnded ∷ []) e = omega arith
whole_short job other e = absurd (cc)

-- Each case has at most four events, if each case with an event has a whole history.
pub four_calls : (plan : List Job) (T : Trace) → IsPlan plan → AreWhole plan T → ((i : ℕ) → length plan ≤ i → events_of i T ≡ []) → (i : ℕ) → length (events_of i T) ≤ 4
four_calls plan T p h b i = elim (cases_lt i (length plan)) [
  | inl l ↦
      let w = within_some plan i l in
      elim (h i w.0 w.1) [
        | inl e ↦ omega (arith, ap (λ (es : List Event). length es) e)
        | inr e ↦
            let whole = ap (λ k. is_whole w.0 (history k T)) (sym (p.placed i w.0 w.1)) ∙ e in
            omega (arith, whole_short w.0 (history i T) whole, length-map (events_of i T) kind_of_event)
      ]
  | inr l ↦ omega (arith, ap (λ (es : List Event). length es) (b i l))
]

-- If every history is whole and every decided case was open, the record order has each case once.
pub named_once : {plan : List Job} (n : ℕ) (T : Trace) → IsPlan plan → list_all (has_whole_history T) plan ≡ true → WerePutsAllowed plan n T → Recorded plan n T
    → NamesEachOnce plan (recorded plan n T)
named_once {plan} n T p w o r = names_once n T p r done
  where
    done : (i : ℕ) (job : Job) → slice_get plan i ≡ Some job → is_done plan n T job ≡ true
    done i job g = grind (arith, o i job g, list_all_at (has_whole_history T) plan i job g w)

abbrev HasGoodMoment : Event → Type 0
HasGoodMoment (Start i role answer) = HasValidTimestamp answer
HasGoodMoment (End ended) = IsMoment ended.moment

abbrev AreTimely : List Event → Type 0
AreTimely [] = ⊤
AreTimely (e ∷ es) = HasGoodMoment e × AreTimely es

timely_more : (es : List Event) (e : Event) → AreTimely es → HasGoodMoment e → AreTimely (es ++ e ∷ [])
timely_more [] e h g = (g, tt)
timely_more (x ∷ es) e h g = (h.0, timely_more es e h.1 g)

good_moment : (plan : List Job) (T : Trace) (e : Event) → FitsAt plan T e → HasGoodMoment e
good_moment plan T (Start i role answer) f = f
good_moment plan T (End ended) f = f.0

timely_of : (plan : List Job) (i : ℕ) (T : Trace) → HoldsAtEachEvent (FitsAt plan) T → AreTimely (events_of i T)
timely_of plan i NoEvent h = tt
timely_of plan i (Then T e) h = by (position_of e == i) (timely_of plan i T h.0)
  where
    by : (b : Bool) → AreTimely (events_of i T) → AreTimely (if b then events_of i T ++ e ∷ [] else events_of i T)
    by true g = timely_more (events_of i T) e g (good_moment plan T e h.1)
    by false g = g

storable : (job : Job) (es : List Event) (entry : Entry) → IsEntry job es entry → AreTimely es → IsStorable entry
storable job _ _ (recorded.decided v d) t = record { started = omega arith; millis = omega arith }
storable job _ _ (recorded.refused i cause v w) t = record { started = omega arith; millis = omega arith }
storable job _ _ (recorded.ended i m e v w) t = record { started = t.0; millis = omega (arith, t.1.0) }
storable job _ _ (recorded.uncleaned i m e j cause body v w x) t = record { started = t.0; millis = omega (arith, t.1.0) }
storable job _ _ (recorded.cleaned i m e j k f body v w x) t = record { started = t.0; millis = omega (arith, t.1.1.1.0) }

-- An entry is storable if the timestamps of its trace are in the range.
pub storable_entry : (plan : List Job) (T : Trace) (i : ℕ) (entry : Entry) → HoldsAtEachEvent (FitsAt plan) T → IsEntryOf plan T i entry → IsStorable entry
storable_entry plan T i entry f w = storable w.job (events_of i T) entry w.entry_is (timely_of plan i T f)
