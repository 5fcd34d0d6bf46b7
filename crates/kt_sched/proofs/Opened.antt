-- A decided case becomes ready, and the response to a put.
use Rattle.kt_sched.proofs.Common.{◌==◌, ◌<◌, nat_lt, nat_tests, if◌then◌else◌, not, get_or, slice_get, Option, Some, None, filter, is_some, ◌≡◌, ℕ, ◌+◌, responses_after_put, Bool, true, false, List, ◌∷◌, refl, sym, ◌∙◌, ap, subst, arith, inl, inr, append-nil, cases_eq, VerdictValue, Job, Stage, Decided, Case, CaseRecord, events_of, active, turns, is_put_allowed, Responses, has_failed, SchedState, RepresentsRun, IsStage, HasRecord, HasTurn, TracksAllowedPuts, is_decided, is_undecided, unstarted_record, record_in, positions, allowed_puts, slice_get_within, ◌≤◌, ◌++◌, length, drop, recorded, option_to_list, option_map}
use Rattle.kt_sched.specs.declared.next.Next.TheVariants as next
use Rattle.kt_sched.proofs.Lists.{slice_get-drop, drop_at, take_filter}
use Rattle.kt_sched.proofs.Located.{AtTurn, has_turn, turn_found, active_is, one_place, asked_as}
use Rattle.kt_sched.proofs.Upcoming.{exclusive_needs_none}
use Rattle.kt_sched.proofs.Decided.{open_here}
use Rattle.std.proofs.lemmas.Option.{same_Some}

record_there : (o : Option VerdictValue) → is_some o ≡ true → (t : CaseRecord) × (option_map unstarted_record o ≡ Some t)
record_there None e = absurd (cc)
record_there (Some v) e = (unstarted_record v, refl)

room_at : (a n : ℕ) (exclusive : Bool) → a < n → (exclusive ≡ true → a ≡ 0) → (if exclusive then a == 0 else nat_lt a n) ≡ true
room_at a n exclusive l f = grind (arith, nat_tests, f)

module _ {plan : List Job} {n : ℕ} {fed : Responses} {b : SchedState} {i : ℕ} (h : RepresentsRun plan n fed b) (t : HasTurn b i) {case : Case}
    (at : case ≡ get_or b.cases i case) (is : case.stage ≡ Decided) where
  -- The decided case at the turn is open.
  a : AtTurn plan fed b i
  a = has_turn h i t.1

  ripe : (a.case.stage ≡ Decided) × (is_decided a.job ≡ true) × (is_put_allowed plan n fed.trace a.job ≡ true)
  ripe =
      let z = ap (λ (c : Case). c.stage) (same_Some a.case case (sym a.found ∙ turn_found h i case t.1 at)) ∙ is in
      let P : Stage → Type 0 = λ x. IsStage i a.job x (events_of i fed.trace) in
      let s = subst P z a.stage in
      let l : active plan fed.trace < n = omega (arith, t.2, h.cases.width_is, active_is h) in
      let m = room_at (active plan fed.trace) n a.job.exclusive l (λ e. active_is h ∙ exclusive_needs_none h t.1 a.place t.3 e) in
      (z, s.1, open_here fed.trace b.turn h.cases.is_plan h.turn.starts n a.job a.turn s.1 m)

  pub record_now : HasRecord b.cases i
  record_now =
      let t = record_there a.job.decided ripe.1 in
      (a.case, t.0, a.found, ap (record_in a.case.job) ripe.0 ∙ (ap (λ (j : Job). option_map unstarted_record j.decided) a.kept ∙ t.1))

  gone_now : has_failed fed ≡ false → TracksAllowedPuts plan n fed.trace (b.turn + 1)
  gone_now f = record {
    gone = λ k job l g d. elim (cases_eq k b.turn) [
      | inl e ↦
          let same = same_Some a.job job (sym a.turn ∙ (ap (slice_get (turns plan)) (sym e) ∙ g)) in
          (h.puts.gone f).due k job (omega (arith, e)) g ∙ (ap (is_put_allowed plan n fed.trace) (sym same) ∙ ripe.2)
      | inr x ↦ (h.puts.gone f).gone k job (omega (arith, l, x)) g d
    ];
    due = λ k job l g. (h.puts.gone f).due k job (omega (arith, l)) g;
  }

  pub stands_opened : b.ready ≡ None → RepresentsRun plan n fed (record b { turn = b.turn + 1; ready = Some i; asked = next.Done })
  stands_opened e = record {
    cases = h.cases;
    turn = record {
      walk = h.turn.walk;
      within = omega (arith, slice_get_within b.order b.turn i t.1);
      starts = h.turn.starts
          ∙ ap positions (sym (take_filter is_undecided (turns plan) b.turn a.job a.turn ∙ rw (ap not ripe.1) (append-nil _)));
      met = λ k j c g x. (
        λ l. (h.turn.met k j c g x).0 (omega (arith, l)),
        λ l w. elim (cases_eq k b.turn) [
          | inl q ↦
              let m = same_Some j i (sym g ∙ (ap (slice_get b.order) q ∙ t.1)) in
              let s = same_Some c a.case (sym x ∙ (ap (slice_get b.cases) m ∙ a.found)) in
              absurd (cc (ap (λ (y : Case). y.stage) s, ripe.0, w))
          | inr q ↦ (h.turn.met k j c g x).1 (omega (arith, l, q)) w
        ],
      );
    };
    puts = record {
      failed = h.puts.failed;
      stopped = λ f. absurd (cc (t.0));
      stored = h.puts.stored;
      gone = gone_now;
      ready = λ f. h.puts.ready f ∙ (rw e (ap positions run ∙ ap (λ k. k ∷ positions (allowed_puts plan n fed.trace (b.turn + 1))) a.at));
      ripe = λ j m x o. let q = one_place h m b.turn i (o ∙ sym x) t.1 in omega (arith, q);
    };
    has_record = λ j x y. subst (HasRecord b.cases) (same_Some i j x) record_now;
    asked = tt;
  }
    where
      run : allowed_puts plan n fed.trace b.turn ≡ a.job ∷ allowed_puts plan n fed.trace (b.turn + 1)
      run = ap (filter (is_put_allowed plan n fed.trace)) (drop_at (turns plan) b.turn a.job a.turn) ∙ rw ripe.2 refl

-- The state after the response to a put represents the responses with this response.
pub put : {plan : List Job} {n : ℕ} {fed : Responses} {b : SchedState} → RepresentsRun plan n fed b → (i : ℕ) → b.asked ≡ next.Put i → (failed : Bool)
    → RepresentsRun plan n (responses_after_put fed failed) (record b { ready = None; asked = next.Done; failed = failed })
put h i q true = record {
  cases = h.cases;
  turn = h.turn;
  puts = record { failed = refl; stopped = λ g. refl; stored = h.puts.stored; gone = λ g. absurd (cc); ready = λ g. absurd (cc); ripe = λ k m x. absurd (cc) };
  has_record = λ k x y. absurd (cc);
  asked = tt;
}
put {plan} {n} {fed} {b} h i q false =
    let a = asked_as h (next.Put i) q in
    let f : false ≡ has_failed fed = sym a.0 ∙ h.puts.failed in
    let xs = recorded plan n fed.trace in
    let ys = positions (allowed_puts plan n fed.trace b.turn) in
    let w = h.puts.ready (sym f) ∙ ap (λ o. option_to_list o ++ ys) a.1 in
    let g = slice_get-drop xs fed.stored ∙ ap (λ (zs : List ℕ). slice_get zs 0) w in
    let e : drop (fed.stored + 1) xs ≡ ys = cc (sym (drop_at xs fed.stored i g) ∙ w) in
    let l : fed.stored + 1 ≤ length xs = omega (arith, slice_get_within xs fed.stored i g) in
    record {
      cases = h.cases;
      turn = h.turn;
      puts = record { failed = f; stopped = λ g. refl; stored = l; gone = h.puts.gone; ready = λ g. e; ripe = λ k m x o. absurd (cc) };
      has_record = λ k x y. absurd (cc);
      asked = tt;
    }
