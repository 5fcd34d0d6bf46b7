-- The history that a stage represents, and the stage after an event.
use Rattle.kt_sched.proofs.Common.{false_from_ne_true, and_right, not, None, is_none, is_some, map, not, ◌&&◌, ◌≡◌, ◌≢◌, ℕ, Bool, true, false, List, [], ◌∷◌, refl, sym, ◌∙◌, ap, list_any, Role, Body, Cleanup, Job, Stage, Waiting, Decided, Running, PendingCleanup, Cleaning, Finished, Taken, EndedBody, Event, EventKind, BodyStarted, BodyEnded, CleanupStarted, kind_of_event, is_whole, is_body_started, role_runs, stage_runs, IsStage, is_over, is_active_stage, is_pending_stage, is_waiting_stage, is_decided_stage, slice_get, Some, ◌<◌, ◌⊎◌, ◌-◌, ◌++◌, subst, arith, inl, inr, and_from, CleanupRefused, end_kind, CaseRecord, ended_body, Start, End, Trace, Then, position_of, body_start_of, empty_output, IsEntry, ended, refused, uncleaned, cleaned, ChangesStage, case_declares_cleanup, pending_cleanup, pending_at, entry_with, record_after_cleanup, stage_changes_left}
use Rattle.kt_sched.specs.declared.job.StartAnswer.TheVariants as start

abbrev pub marks_active : Job → List EventKind → Bool
marks_active job w = list_any is_body_started w && not (is_whole job w)

-- `Says job stage w`: the stage `stage` and the history `w` of the case of `job` agree on whether
-- the case is over, is active or runs.
pub record Says (job : Job) (stage : Stage) (w : List EventKind) : Type 0 where
  pub whole : is_whole job w ≡ is_over stage
  pub active : marks_active job w ≡ is_active_stage stage
  pub runs : (r : Role) → role_runs r w ≡ stage_runs r stage

by_role : (w : List EventKind) (stage : Stage) → role_runs Body w ≡ stage_runs Body stage → role_runs Cleanup w ≡ stage_runs Cleanup stage → (r : Role)
    → role_runs r w ≡ stage_runs r stage
by_role w stage b c Body = b
by_role w stage b c Cleanup = c

-- No child of a case runs if the case's history is whole.
pub whole_quiet : (job : Job) (role : Role) (w : List EventKind) → is_whole job w ≡ true → role_runs role w ≡ false
whole_quiet job Body (BodyStarted ∷ []) h = absurd (cc)
whole_quiet job Cleanup (BodyStarted ∷ BodyEnded ∷ CleanupStarted ∷ []) h = absurd (cc)
whole_quiet job role w h = refl

over_inactive : (stage : Stage) → is_over stage ≡ true → is_active_stage stage ≡ false
over_inactive (Running m) e = absurd (cc)
over_inactive (PendingCleanup b) e = absurd (cc)
over_inactive (Cleaning b) e = absurd (cc)
over_inactive stage e = refl

pub not_decided : (stage : Stage) → stage ≢ Decided → is_decided_stage stage ≡ false
not_decided Decided f = absurd (f refl)
not_decided stage f = refl

pub runs_active : (r : Role) (stage : Stage) → stage_runs r stage ≡ true → is_active_stage stage ≡ true
runs_active Body (Running m) e = refl
runs_active Cleanup (Cleaning b) e = refl
runs_active r stage e = absurd (cc)

over_says : (job : Job) (stage : Stage) (w : List EventKind) → is_whole job w ≡ true → is_over stage ≡ true → Says job stage w
over_says job stage w h o = record {
  whole = h ∙ sym o;
  active = and_right (list_any is_body_started w) (not (is_whole job w)) (ap not h) ∙ sym (over_inactive stage o);
  runs = λ r. whole_quiet job r w h ∙ sym (false_from_ne_true (stage_runs r stage) (λ v. cc (runs_active r stage v, over_inactive stage o)));
}

pub says : (i : ℕ) (job : Job) (stage : Stage) (es : List Event) → IsStage i job stage es → Says job stage (map kind_of_event es)
says i job Waiting es h = rw h.0 (record { whole = ap is_some h.1; active = refl; runs = by_role [] Waiting refl refl })
says i job Decided es h = rw h.0 (over_says job Decided [] h.1 refl)
says i job (Running m) es h = rw h.0 (record { whole = refl; active = refl; runs = by_role (BodyStarted ∷ []) (Running m) refl refl })
says i job (PendingCleanup b) es h =
    let w = and_right (is_none job.decided) (not job.cleanup) (ap not h.3) in
    rw (h.1, h.2) (record { whole = w; active = ap not w; runs = by_role (BodyStarted ∷ BodyEnded ∷ []) (PendingCleanup b) refl refl })
says i job (Cleaning b) es h =
    rw (h.2, h.3) (record { whole = refl; active = refl; runs = by_role (BodyStarted ∷ BodyEnded ∷ CleanupStarted ∷ []) (Cleaning b) refl refl })
says i job (Finished t) es h = over_says job (Finished t) (map kind_of_event es) h.0 refl
says i job Taken es h = over_says job Taken (map kind_of_event es) h refl

-- A case that isn't over is undecided.
pub undecided_stage : (i : ℕ) (job : Job) (stage : Stage) (es : List Event) → IsStage i job stage es → is_over stage ≡ false → job.decided ≡ None
undecided_stage i job Waiting es h o = h.1
undecided_stage i job (Running m) es h o = h.1
undecided_stage i job (PendingCleanup b) es h o = h.6
undecided_stage i job (Cleaning b) es h o = h.7
undecided_stage i job stage es h o = absurd (cc)

-- A case that waits isn't active.

pub fresh_inactive : (stage : Stage) → is_waiting_stage stage ≡ true → is_active_stage stage ≡ false
fresh_inactive Waiting e = refl
fresh_inactive Decided e = refl
fresh_inactive stage e = absurd (cc)

pub waiting_stage : (stage : Stage) → is_waiting_stage stage ≡ true → is_decided_stage stage ≡ false → stage ≡ Waiting
waiting_stage Waiting e f = refl
waiting_stage stage e f = absurd (cc)

pub over_stage : (stage : Stage) → stage ≢ Waiting → is_active_stage stage ≡ false → is_over stage ≡ true
over_stage Waiting w e = absurd (w refl)
over_stage (Running m) w e = absurd (cc)
over_stage (PendingCleanup b) w e = absurd (cc)
over_stage (Cleaning b) w e = absurd (cc)
over_stage stage w e = refl

-- An active case owes its cleanup or runs.
pub active_runs : (stage : Stage) → is_active_stage stage ≡ true → is_pending_stage stage ≡ false → (r : Role) × (stage_runs r stage ≡ true)
active_runs (Running m) e o = (Body, refl)
active_runs (Cleaning b) e o = (Cleanup, refl)
active_runs stage e o = absurd (cc)

pub owing_stage : (stage : Stage) → is_pending_stage stage ≡ true → (o : EndedBody) × (stage ≡ PendingCleanup o)
owing_stage (PendingCleanup b) e = (b, refl)
owing_stage stage e = absurd (cc)

-- `Moves was e now`: the event `e` moves a case that isn't over from the stage `was` to the stage
-- `now`, which has less work left.
pub record Moves (was : Stage) (e : Event) (now : Stage) : Type 0 where
  pub fresh : is_over was ≡ false
  pub works : stage_changes_left now < stage_changes_left was
  pub begins : is_waiting_stage now ≡ false
  pub has_record : is_over now ≡ true → (t : CaseRecord) × (now ≡ Finished t)
  pub kind : ((is_waiting_stage was ≡ true) × (body_start_of e ≡ position_of e ∷ [])) ⊎ ((is_active_stage was ≡ true) × (body_start_of e ≡ []))

pub moves : (cleanup : Bool) (was : Stage) (e : Event) (now : Stage) → ChangesStage cleanup was e now → Moves was e now
moves c Waiting (Start i Body (start.Started m)) (Running k) h =
    record { fresh = refl; works = omega arith; begins = refl; has_record = λ y. absurd (cc); kind = inl (refl, refl) }
moves c Waiting (Start i Body (start.Refused x)) (Finished t) h =
    record { fresh = refl; works = omega arith; begins = refl; has_record = λ y. (t, refl); kind = inl (refl, refl) }
moves c (PendingCleanup b) (Start i Cleanup (start.Started m)) (Cleaning x) h =
    record { fresh = refl; works = omega arith; begins = refl; has_record = λ y. absurd (cc); kind = inr (refl, refl) }
moves c (PendingCleanup b) (Start i Cleanup (start.Refused x)) (Finished t) h =
    record { fresh = refl; works = omega arith; begins = refl; has_record = λ y. (t, refl); kind = inr (refl, refl) }
moves c (Running m) (End e) (PendingCleanup b) h =
    record { fresh = refl; works = omega arith; begins = refl; has_record = λ y. absurd (cc); kind = inr (refl, refl) }
moves c (Running m) (End e) (Finished t) h =
    record { fresh = refl; works = omega arith; begins = refl; has_record = λ y. (t, refl); kind = inr (refl, refl) }
moves c (Cleaning b) (End e) (Finished t) h =
    record { fresh = refl; works = omega arith; begins = refl; has_record = λ y. (t, refl); kind = inr (refl, refl) }
moves c was e now h = absurd h

body_runs : (r : Role) (m : ℕ) → stage_runs r (Running m) ≡ true → r ≡ Body
body_runs Body m h = refl
body_runs Cleanup m h = absurd (cc)

cleanup_runs : (r : Role) (b : EndedBody) → stage_runs r (Cleaning b) ≡ true → r ≡ Cleanup
cleanup_runs Body b h = absurd (cc)
cleanup_runs Cleanup b h = refl

-- The cleanup owed after an event is the cleanup of the event's case.
pub owed_moves : (plan : List Job) (T : Trace) (job : Job) (was : Stage) (e : Event) (now : Stage) → slice_get plan (position_of e) ≡ Some job
    → ChangesStage job.cleanup was e now → pending_cleanup plan (Then T e) ≡ pending_at now (position_of e)
owed_moves plan T job Waiting (Start i Body (start.Started m)) (Running k) g h = refl
owed_moves plan T job Waiting (Start i Body (start.Refused x)) (Finished t) g h = refl
owed_moves plan T job (PendingCleanup b) (Start i Cleanup (start.Started m)) (Cleaning x) g h = refl
owed_moves plan T job (PendingCleanup b) (Start i Cleanup (start.Refused x)) (Finished t) g h = refl
owed_moves plan T job (Running m) (End e) (PendingCleanup b) g h = rw (body_runs e.role m h.0, g, case_declares_cleanup, h.1) refl
owed_moves plan T job (Running m) (End e) (Finished t) g h = rw (body_runs e.role m h.0, g, case_declares_cleanup, h.1) refl
owed_moves plan T job (Cleaning b) (End e) (Finished t) g h = rw (cleanup_runs e.role b h.0) refl
owed_moves plan T job was e now g h = absurd h

entry_as : {job : Job} {es : List Event} {t u : CaseRecord} → t ≡ u → IsEntry job es (entry_with job u) → IsEntry job es (entry_with job t)
entry_as {job} {es} e = subst (λ x. IsEntry job es (entry_with job x)) (sym e)

-- The new stage represents the events with the new event.
pub stage_moves : (job : Job) (was : Stage) (e : Event) (now : Stage) (es : List Event) → IsStage (position_of e) job was es → ChangesStage job.cleanup was e now
    → IsStage (position_of e) job now (es ++ e ∷ [])
stage_moves job Waiting (Start i Body (start.Started m)) (Running k) es s h = (rw (s.0, h) refl, s.1)
stage_moves job Waiting (Start i Body (start.Refused c)) (Finished t) es s h =
    rw s.0 (ap is_none s.1, entry_as h.1 (refused i c t.verdict h.0))
stage_moves job (PendingCleanup b) (Start i Cleanup (start.Started m)) (Cleaning x) es s h =
    let e = Start i Cleanup (start.Started m) in
    subst (λ (y : EndedBody). IsStage i job (Cleaning y) (es ++ e ∷ [])) (sym h)
    (s.0, m, ap (λ (es : List Event). es ++ e ∷ []) s.1, s.2, s.3, s.4, s.5, s.6)
stage_moves job (PendingCleanup b) (Start i Cleanup (start.Refused c)) (Finished t) es s h =
    let of_end = λ (x : EndedBody). record_after_cleanup t.verdict (record { started = b.started; ended = x.ended; verdict = x.verdict; output = x.output })
    x.ended empty_output in
    rw s.1 (
      ap (λ x. is_whole job (BodyStarted ∷ end_kind x ∷ CleanupRefused ∷ [])) s.2 ∙ and_from _ _ (ap is_none s.6) s.3,
      entry_as (h.1 ∙ ap of_end s.5) (uncleaned i b.started s.0 i c b.verdict t.verdict s.4 h.0),
    )
stage_moves job (Running m) (End e) (PendingCleanup b) es s h =
    let same : m ≡ b.started = ap (λ (y : EndedBody). y.started) (sym h.3) in
    let ends = ap (λ (es : List Event). es ++ End e ∷ []) s.0 ∙ ap (λ y. Start e.position Body (start.Started y) ∷ End e ∷ []) same in
    (e, ends, body_runs e.role m h.0, h.1, h.2, h.3 ∙ ap (λ y. ended_body b.verdict y e) same, s.1)
stage_moves job (Running m) (End e) (Finished t) es s h =
    rw s.0 (
      ap (λ x. is_whole job (BodyStarted ∷ end_kind x ∷ [])) (body_runs e.role m h.0) ∙ and_from _ _ (ap is_none s.1) (ap not h.1),
      entry_as h.3 (ended e.position m e t.verdict h.2),
    )
stage_moves job (Cleaning b) (End f) (Finished t) es s h =
    let of_end : EndedBody → CaseRecord =
    λ y. record { verdict = t.verdict; started = b.started; millis = f.moment - b.started; body = y.output; cleanup = f.output } in
    rw s.2 (
      ap (λ y. is_whole job (BodyStarted ∷ end_kind y ∷ CleanupStarted ∷ end_kind f.role ∷ [])) s.3
          ∙ ap (λ y. is_whole job (BodyStarted ∷ BodyEnded ∷ CleanupStarted ∷ end_kind y ∷ [])) (cleanup_runs f.role b h.0)
          ∙ and_from _ _ (ap is_none s.7) s.4,
      entry_as (h.2 ∙ ap of_end s.6) (cleaned f.position b.started s.0 f.position s.1 f b.verdict t.verdict s.5 h.1),
    )
stage_moves job was e now es s h = absurd h
