-- The first state of the scheduler, and the records of cases.
use Rattle.kt_sched.proofs.Common.{length, length-filter, slice_get, filter, Option, Some, None, is_some, map, ◌≡◌, ℕ, ◌<◌, Bool, true, false, cond, List, [], refl, sym, ◌∙◌, ap, arith, length-map, option_map, slice_get-map, Job, Case, NoEvent, turns, is_put_allowed, IsPlan, no_responses, initial_case, initial_stage, SchedState, RepresentsRun, IsStage, is_active_stage, is_pending_stage, is_waiting_stage, positions, VerdictValue, ◌≢◌, ◌≤◌, subst, slice_set, inl, inr, length-set, Entry, Stage, Decided, Finished, Taken, Event, events_of, IsEntry, decided, IsEntryOf, CaseRecord, Responses, TakesEntry, HasRequested, is_over, is_pending_case, entry_with, record_in, unstarted_record, stage_changes_left, changes_left}
use Rattle.kt_sched.specs.declared.next.Next.TheVariants as next
use Rattle.kt_sched.proofs.Lists.{filter_none, mapped_at, count_by-set, sum_by-set}
use Rattle.kt_sched.proofs.Turns.{put_at_positions}
use Rattle.kt_sched.proofs.Located.{Which, asked_as, each_set, located, which}
use Rattle.std.proofs.lemmas.Option.{same_Some}

-- `first_state w cases order`: the state before the first response, with the width `w`, the cases
-- `cases` and the turn order `order`.
abbrev pub first_state : ℕ → List Case → List ℕ → SchedState
first_state w cases order =
    record { cases = cases; order = order; turn = 0; active = 0; width = w; pending = None; ready = None; asked = next.Done; failed = false }

-- At first, no case is active and no case owes its cleanup.
first_is : (o : Option VerdictValue) → (is_waiting_stage (initial_stage o) ≡ true) × (is_active_stage (initial_stage o) ≡ false) × (is_pending_stage (initial_stage o) ≡ false)
first_is None = (refl, refl, refl)
first_is (Some v) = (refl, refl, refl)

first_stands : (i : ℕ) (job : Job) → (o : Option VerdictValue) → job.decided ≡ o → IsStage i job (initial_stage o) []
first_stands i job None e = (refl, e)
first_stands i job (Some v) e = (refl, ap is_some e)

all_first : (plan : List Job) (i : ℕ) (c : Case) → slice_get (map initial_case plan) i ≡ Some c
    → (is_waiting_stage c.stage ≡ true) × (is_active_stage c.stage ≡ false) × (is_pending_stage c.stage ≡ false)
all_first plan i c g = let w = mapped_at initial_case plan i c g in let f = first_is w.0.decided in rw (sym w.2) f

pub new_stands : {plan jobs : List Job} {w : ℕ} {cs : List Case} {xs : List ℕ} → IsPlan plan → 1 ≤ w → jobs ≡ plan → cs ≡ map initial_case jobs
    → xs ≡ positions (turns jobs) → RepresentsRun plan w no_responses (first_state w cs xs)
new_stands {plan} {w = n} h l q e f = rw (e, f, q) (record {
  cases = record {
    is_plan = h;
    room = omega (arith, l);
    width_is = refl;
    pending_is = refl;
    count = length-map plan initial_case;
    each = λ i job g.
        let found = slice_get-map initial_case plan i ∙ ap (option_map initial_case) g in
        record { case = initial_case job; found = found; stage = first_stands i job job.decided refl; kept = λ t. refl };
    beyond = λ i g. refl;
    active =
        let p = λ (c : Case). is_active_stage c.stage in
        let none = filter_none p (map initial_case plan) (λ i c g. (all_first plan i c g).1) in
        ap (λ (cs : List Case). length cs) (sym none) ∙ length-filter p (map initial_case plan);
    most = omega arith;
    lone = λ k j c g x e a. absurd (cc ((all_first plan k c x).1, a));
    owing = λ k c g. (all_first plan k c g).2;
    owed_within = λ i x. absurd (cc);
  };
  turn = record {
    walk = refl;
    within = omega arith;
    starts = refl;
    met = λ k i c x g. (λ t. (all_first plan i c g).0, λ t. absurd (omega arith));
  };
  puts = record {
    failed = refl;
    stopped = λ f. refl;
    stored = omega arith;
    gone = λ f. record { gone = λ k job l g d. absurd (omega (arith, l)); due = λ k job l g. refl };
    ready = λ f. put_at_positions 0 (filter (is_put_allowed plan n NoEvent) (turns plan));
    ripe = λ i m x o. absurd (cc);
  };
  has_record = λ i x y. absurd (cc);
  asked = tt;
})

-- If a case has a record, `entry_with` of its job and this record is the entry of the case.
record_entry : (i : ℕ) (job : Job) (was : Stage) (es : List Event) (t : CaseRecord) → IsStage i job was es → record_in job was ≡ Some t
    → IsEntry job es (entry_with job t)
record_entry i job Decided es t s e = rw s.0 (by job.decided refl e)
  where
    by : (o : Option VerdictValue) → job.decided ≡ o → option_map unstarted_record o ≡ Some t → IsEntry job [] (entry_with job t)
    by None d f = absurd (cc)
    by (Some v) d f = subst (λ (x : CaseRecord). IsEntry job [] (entry_with job x)) (same_Some (unstarted_record v) t f) (decided v d)
record_entry i job (Finished x) es t s e = subst (λ (y : CaseRecord). IsEntry job es (entry_with job y)) (same_Some x t e) s.1
record_entry i job was es t s e = absurd (cc)

-- A case with a record is over.
record_over : (job : Job) (was : Stage) (t : CaseRecord) → record_in job was ≡ Some t
    → (is_over was ≡ true) × (is_active_stage was ≡ false) × (is_pending_stage was ≡ false) × (stage_changes_left was ≡ 1) × (was ≢ Taken)
record_over job Decided t e = (refl, refl, refl, refl, λ x. absurd (cc))
record_over job (Finished x) t e = (refl, refl, refl, refl, λ y. absurd (cc))
record_over job was t e = absurd (cc)

pub less_taken : (ys : List Case) (i : ℕ) (cs : List Case) (entry : Entry) → TakesEntry ys cs i entry → changes_left cs < changes_left ys
less_taken ys i cs entry t =
    let f = λ (c : Case). stage_changes_left c.stage in
    let x = sum_by-set f ys i (record { job = t.had; stage = t.was }) (record { job = t.left; stage = Taken }) t.found in
    subst (λ (xs : List Case). changes_left xs < changes_left ys) (sym t.changed) (omega (arith, x, (record_over t.had t.was t.case_record t.has_record).3))

module _ {plan : List Job} {n : ℕ} {fed : Responses} {b : SchedState} {i : ℕ} {cs : List Case} {entry : Entry} (h : RepresentsRun plan n fed b)
    (t : TakesEntry b.cases cs i entry) where
  abbrev new : Case
  new = record { job = t.left; stage = Taken }

  abbrev later : List Case
  later = slice_set b.cases i new

  over : (is_over t.was ≡ true) × (is_active_stage t.was ≡ false) × (is_pending_stage t.was ≡ false) × (stage_changes_left t.was ≡ 1) × (t.was ≢ Taken)
  over = record_over t.had t.was t.case_record t.has_record

  pub entry_taken : IsEntryOf plan fed.trace i entry
  entry_taken =
      let l = located h i t.had t.was t.found in
      let same = l.kept over.4 in
      let w = record_entry i l.job t.was (events_of i fed.trace) t.case_record l.stands (ap (λ (j : Job). record_in j t.was) (sym same) ∙ t.has_record) in
      record {
        job = l.job;
        place = l.place;
        whole = l.says.whole ∙ over.0;
        entry_is = subst (λ (x : Entry). IsEntry l.job (events_of i fed.trace) x) (ap (λ (j : Job). entry_with j t.case_record) (sym same) ∙ sym t.is) w;
      }

  which_one : (k : ℕ) (c : Case) → slice_get later k ≡ Some c → Which b.cases i new k c
  which_one = which b.cases i _ new t.found

  pub stands_taken : b.asked ≡ next.Put i → RepresentsRun plan n fed (record b { cases = cs })
  stands_taken q = subst (λ (xs : List Case). RepresentsRun plan n fed (record b { cases = xs })) (sym t.changed) (record {
    cases = record {
      is_plan = h.cases.is_plan;
      room = h.cases.room;
      width_is = h.cases.width_is;
      pending_is = h.cases.pending_is;
      count = length-set b.cases i new ∙ h.cases.count;
      each = let e = entry_taken in each_set b.cases i _ new t.found plan fed.trace fed.trace e.job e.place e.whole (λ x. absurd (x refl)) (λ k d. refl)
          h.cases.each;
      beyond = h.cases.beyond;
      active = omega (
        arith,
        count_by-set (λ (c : Case). is_active_stage c.stage) b.cases i (record { job = t.had; stage = t.was }) new t.found,
        h.cases.active,
        ap (λ (z : Bool). cond {A = ℕ} z 1 0) over.1,
      );
      most = h.cases.most;
      lone = λ k j c x g e a. elim (which_one k c g) [
        | inl w ↦ absurd (cc (ap (λ (d : Case). is_active_stage d.stage) w.1, a))
        | inr w ↦ h.cases.lone k j c x w.1 e a
      ];
      owing = λ k c g. elim (which_one k c g) [
        | inl w ↦ ap (λ (d : Case). is_pending_stage d.stage) w.1 ∙ (sym over.2 ∙ (h.cases.owing i _ t.found ∙ ap (is_pending_case b.pending) (sym w.0)))
        | inr w ↦ h.cases.owing k c w.1
      ];
      owed_within = λ k e. omega (arith, h.cases.owed_within k e, length-set b.cases i new);
    };
    turn = record {
      walk = h.turn.walk;
      within = h.turn.within;
      starts = h.turn.starts;
      met = λ m k c o g. elim (which_one k c g) [
        | inl w ↦ (
          λ r. absurd (omega (arith, h.puts.ripe i m asked.1 (o ∙ ap Some w.0), r)),
          λ r x. absurd (cc (ap (λ (d : Case). d.stage) w.1, x)),
        )
        | inr w ↦ h.turn.met m k c o w.1
      ];
    };
    puts = h.puts;
    has_record = λ k x y. absurd (cc (q, y));
    asked = subst (HasRequested (record b { cases = later })) (sym q) asked;
  })
    where
      asked : HasRequested b (next.Put i)
      asked = asked_as h (next.Put i) q
