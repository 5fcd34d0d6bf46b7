-- The responses of a launcher, each of which leads to a new state.
use Rattle.kt_sched.proofs.Common.{ne_eqb, ◌≢◌, get_or, slice_get, slice_get_read, slice_set, length, Option, Some, None, ◌≡◌, ℕ, ◌+◌, ◌<◌, Bool, true, cond, List, refl, sym, ◌∙◌, ap, subst, arith, slice_get_within, Next, Role, Body, Cleanup, Ended, StartAnswer, Stage, Waiting, PendingCleanup, Case, is_same_role, Event, Start, End, Job, Responses, body_start_of, stage_runs, SchedState, RepresentsRun, ChangesStage, IsReachable, RecordsEvent, can_start, pending_at, ready_at, is_active_stage, is_over, is_pending_case}
use Rattle.kt_sched.specs.declared.next.Next.TheVariants as next
use denote.Enum.Bare.{sameb}
use Rattle.kt_base.specs.contracts.child.Role.{the_type}
use Rattle.kt_sched.proofs.Lists.{cond_one}
use Rattle.kt_sched.proofs.Stages.{runs_active, moves}
use Rattle.kt_sched.proofs.Located.{asked_as, asked_within, located, owes, some_active}
use Rattle.kt_sched.proofs.Upcoming.{upcoming}
use Rattle.kt_sched.proofs.EventSteps.{After, AskedFor, OwedBy, after_event, event_taken}
use Rattle.std.proofs.lemmas.Option.{same_Some}

-- `StartFits b role was`: a case in the stage `was` can be started in the role `role`, and its
-- start can be counted in the state `b`.
pub record StartFits (b : SchedState) (role : Role) (was : Stage) : Type 0 where
  pub can : can_start role was ≡ true
  pub ran : is_active_stage was ≡ is_same_role role Cleanup
  pub turn : role ≡ Body → b.turn < length b.order

-- The case that is read at an index is in the list.
found_at : (xs : List Case) (i : ℕ) (case : Case) → i < length xs → case ≡ get_or xs i case → slice_get xs i ≡ Some case
found_at xs i case l e = slice_get_read xs (length xs) i case refl l e

module _ {plan : List Job} {n : ℕ} {fed : Responses} {b : SchedState} (h : RepresentsRun plan n fed b) where
  fits : (i : ℕ) (role : Role) (case : Case) → b.asked ≡ next.Start i role → slice_get b.cases i ≡ Some case → StartFits b role case.stage
  fits i Body case q g =
      let k = asked_as h (next.Start i Body) q in
      let u = upcoming h i k.0 k.3 k.2 in
      let w : case.stage ≡ Waiting = ap (λ (c : Case). c.stage) (same_Some case u.0.case (sym g ∙ u.0.found)) ∙ u.1 in
      record { can = ap (can_start Body) w; ran = ap is_active_stage w; turn = λ y. slice_get_within b.order b.turn i k.2.1 }
  fits i Cleanup case q g =
      let o = owes h i (asked_as h (next.Start i Cleanup) q).1 in
      let w : case.stage ≡ PendingCleanup o.1 = ap (λ (c : Case). c.stage) (same_Some case _ (sym g ∙ o.2)) in
      record { can = ap (can_start Cleanup) w; ran = ap is_active_stage w; turn = λ y. absurd (cc (y)) }

  none_owed : {i : ℕ} → b.pending ≡ None → OwedBy i b.pending
  none_owed e j d = ap (λ (o : Option ℕ). is_pending_case o j) e

  asked_start : (i : ℕ) (role : Role) (x : StartAnswer) → b.asked ≡ next.Start i role → AskedFor b (Start i role x)
  asked_start i Body x q =
      let k = asked_as h (next.Start i Body) q in record { empty = k.0; settled = k.3; owing = none_owed k.1; turned = λ e. k.2 }
  asked_start i Cleanup x q =
      let k = asked_as h (next.Start i Cleanup) q in
      let owing = λ (j : ℕ) (d : j ≢ i). ap (λ (o : Option ℕ). is_pending_case o j) k.1 ∙ ne_eqb j i d in
      record { empty = k.0; settled = k.2; owing = owing; turned = λ e. absurd (cc (e)) }

  asked_end : (e : Ended) → b.asked ≡ next.Wait → AskedFor b (End e)
  asked_end e q = let k = asked_as h next.Wait q in record { empty = k.0; settled = k.3; owing = none_owed k.1; turned = λ e. absurd (cc (e)) }

pub is_cleanup : (role : Role) → sameb the_type role Cleanup ≡ is_same_role role Cleanup
is_cleanup Body = refl
is_cleanup Cleanup = refl

takes_turn : (i : ℕ) (role : Role) (x : StartAnswer) → cond {A = ℕ} (is_same_role role Body) 1 0 ≡ length (body_start_of (Start i role x))
takes_turn i Body x = omega arith
takes_turn i Cleanup x = refl

-- The state before an event, as the code reads it.
module _ {b seen : SchedState} (view : b ≡ seen) (standing : IsReachable b) where
  -- An event leads to a new state that represents the responses with that event.
  steps : {e : Event} {later : SchedState} → ((plan : List Job) (n : ℕ) (fed : Responses) → RepresentsRun plan n fed b → After plan n fed b e later)
      → later.asked ≡ next.Done → RecordsEvent seen e later
  steps {e} {later} f a = subst (λ (x : SchedState). RecordsEvent x e later) view
      (record { stands = λ plan n fed h. (f plan n fed h).stands; less = (f standing.0 standing.1 standing.2 standing.3).less; asked = a })

  was_asked : {q : Next} → seen.asked ≡ q → b.asked ≡ q
  was_asked e = ap (λ (x : SchedState). x.asked) view ∙ e

  pub start_at : (i : ℕ) (role : Role) → seen.asked ≡ next.Start i role → i < length b.cases
  start_at i role q = asked_within standing.3 i role (was_asked q)

  pub start_fits : (i : ℕ) (role : Role) {case : Case} {was : Stage} → seen.asked ≡ next.Start i role → case ≡ get_or b.cases i case → was ≡ case.stage
      → StartFits b role was
  start_fits i role {case} q at s =
      subst (StartFits b role) (sym s) (fits standing.3 i role case (was_asked q) (found_at b.cases i case (start_at i role q) at))

  pub start_active : (i : ℕ) (role : Role) {case : Case} → seen.asked ≡ next.Start i role → case ≡ get_or b.cases i case → is_same_role role Cleanup ≡ true
      → 0 < b.active
  start_active i role {case} q at e =
      let g = found_at b.cases i case (start_at i role q) at in some_active standing.3 i case g ((fits standing.3 i role case (was_asked q) g).ran ∙ e)

  pub started : (i : ℕ) (role : Role) (x : StartAnswer) {case : Case} {was : Stage} (now : Stage) {t a : ℕ} {p r : Option ℕ} {u : Bool}
      → seen.asked ≡ next.Start i role → case ≡ get_or b.cases i case → was ≡ case.stage
      → ((cleanup : Bool) → ChangesStage cleanup was (Start i role x) now) → t ≡ b.turn + cond (is_same_role role Body) 1 0
      → u ≡ is_same_role role Cleanup → a + cond u 1 0 ≡ b.active + cond (is_active_stage now) 1 0 → p ≡ pending_at now i → r ≡ ready_at now b.failed i
      → RecordsEvent seen (Start i role x) (after_event b (slice_set b.cases i (record { job = case.job; stage = now })) t a p r)
  started i role x {case} now {a = a} q at s f y u z p r = rw (p, r) (steps (λ plan n fed h.
      let g = found_at b.cases i case (start_at i role q) at in
      let l = located h i case.job case.stage g in
      event_taken h (record {
        place = l.place;
        moved = record { job = case.job; found = g; changed = refl };
        after = subst (λ w. ChangesStage l.job.cleanup w (Start i role x) now) s (f l.job.cleanup);
        turn = omega (arith, y, takes_turn i role x);
        active = ap (λ w. a + cond w 1 0) ((fits h i role case (was_asked q) g).ran ∙ sym u) ∙ z;
        asked = asked_start h i role x (was_asked q);
      })) refl)

  pub ended : (e : Ended) {case : Case} {was : Stage} (now : Stage) {a : ℕ} {p r : Option ℕ} → seen.asked ≡ next.Wait
      → ((c : Case) × (slice_get seen.cases e.position ≡ Some c) × (stage_runs e.role c.stage ≡ true))
      → case ≡ get_or b.cases e.position case → was ≡ case.stage → ChangesStage case.job.cleanup was (End e) now
      → a + 1 ≡ b.active + cond (is_active_stage now) 1 0 → p ≡ pending_at now e.position → r ≡ ready_at now b.failed e.position
      → RecordsEvent seen (End e) (after_event b (slice_set b.cases e.position (record { job = case.job; stage = now })) b.turn a p r)
  ended e {case} now q w at s f z p r = rw (p, r) (steps (λ plan n fed h.
      let there = ap (λ (x : SchedState). slice_get x.cases e.position) view ∙ w.1 in
      let g = found_at b.cases e.position case (slice_get_within b.cases e.position w.0 there) at in
      let k = ap (λ (c : Case). stage_runs e.role c.stage) (same_Some case w.0 (sym g ∙ there)) ∙ w.2 in
      let l = located h e.position case.job case.stage g in
      let v = subst (λ w. ChangesStage case.job.cleanup w (End e) now) s f in
      let same = l.kept (λ x. absurd (cc ((moves case.job.cleanup case.stage (End e) now v).fresh, ap is_over x))) in
      event_taken h (record {
        place = l.place;
        moved = record { job = case.job; found = g; changed = refl };
        after = subst (λ (j : Job). ChangesStage j.cleanup case.stage (End e) now) same v;
        turn = omega arith;
        active = omega (arith, z, cond_one (is_active_stage case.stage) (runs_active e.role case.stage k));
        asked = asked_end h e (was_asked q);
      })) refl)
