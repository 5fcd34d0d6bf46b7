-- The running children and the owed cleanups after a trace, and the rules that a trace keeps.
use Rattle.kt_sched.proofs.Common.{is_some, IfSome, append-nil, ◌≤◌, arith, nat_tests, MayStart, HasValidTimestamp, NoEvent, Leads, first_events, event_count, body_starts, body_start_of, HoldsAtEachEvent, KeepsWidth, KeepsExclusive, KeepsCleanupNext, WaitsWhenBusy, Responses, FitsAt, has_failed, IsUpToDate, MayStartNow, pending_after_start, slice_get, Option, Some, None, if◌then◌else◌, ◌&&◌, ◌≡◌, ◌≢◌, ℕ, ◌==◌, Bool, true, false, List, [], ◌∷◌, ◌++◌, refl, sym, ◌∙◌, ap, subst, option_map, Role, Body, Cleanup, Job, StartAnswer, Ended, Child, child_of, is_same_role, running_after_start, running_after_end, pending_after_end, has_declared_cleanup, Event, Start, End, Trace, Then, position_of, EventKind, BodyStarted, BodyEnded, CleanupStarted, kind_of_event, end_kind, history, pending_cleanup, case_declares_cleanup, is_pending_case, role_runs, runs}
use Rattle.kt_sched.specs.declared.job.StartAnswer.TheVariants as start
use Rattle.kt_sched.specs.declared.launcher.Launcher as launcher
use Rattle.kt_sched.proofs.Turns.{history_same, history_other}

-- `child_at plan k`: the child of the job at position `k` of `plan`, if there is such a job.
abbrev pub child_at : List Job → ℕ → Option Child
child_at plan k = option_map child_of (slice_get plan k)

-- `running_of plan T k r`: the child of case `k` of `plan` in the role `r` that runs after the
-- events `T`, or `None`.
abbrev pub running_of : List Job → Trace → ℕ → Role → Option Child
running_of plan T k r = if runs k r T then child_at plan k else None

-- `history_before role`: the history of a case before the start of its child in the role `role`.
abbrev pub history_before : Role → List EventKind
history_before Body = []
history_before Cleanup = BodyStarted ∷ BodyEnded ∷ []

abbrev pub history_while : Role → List EventKind
history_while Body = BodyStarted ∷ []
history_while Cleanup = BodyStarted ∷ BodyEnded ∷ CleanupStarted ∷ []

pub while_runs : (role : Role) (w : List EventKind) → role_runs role w ≡ true → w ≡ history_while role
while_runs Body (BodyStarted ∷ []) h = refl
while_runs Cleanup (BodyStarted ∷ BodyEnded ∷ CleanupStarted ∷ []) h = refl
while_runs role w h = absurd (cc)

-- `runs_by plan i r w`: the child of case `i` of `plan` in the role `r` that runs after the history
-- `w`, or `None`.
abbrev runs_by : List Job → ℕ → Role → List EventKind → Option Child
runs_by plan i r w = if role_runs r w then child_at plan i else None

runs_other : (plan : List Job) (T : Trace) (e : Event) (k : ℕ) (r : Role) → k ≢ position_of e → running_of plan (Then T e) k r ≡ running_of plan T k r
runs_other plan T e k r d = ap (runs_by plan k r) (history_other (position_of e) k T e refl d)

runs_same : (plan : List Job) (T : Trace) (e : Event) (r : Role) (w : List EventKind) → history (position_of e) T ≡ w
    → running_of plan (Then T e) (position_of e) r ≡ runs_by plan (position_of e) r (w ++ kind_of_event e ∷ [])
runs_same plan T e r w d = ap (runs_by plan (position_of e) r) (history_same (position_of e) T e refl ∙ ap (λ (v : List EventKind). v ++ kind_of_event e ∷ []) d)

pub runs_now : (plan : List Job) (T : Trace) (i : ℕ) (r : Role) (w : List EventKind) → history i T ≡ w → running_of plan T i r ≡ runs_by plan i r w
runs_now plan T i r w d = ap (runs_by plan i r) d

-- For a launcher whose running children `running` are those that run after the trace `T`.
module _ (plan : List Job) (T : Trace) (running : ℕ → Role → Option Child) (h : (j : ℕ) (s : Role) → running j s ≡ running_of plan T j s) where
  -- An event changes the running child of its case and role, and no other.
  changed : (e : Event) (role r : Role) (k : ℕ) (x : Option Child)
      → (if is_same_role r role then x else running (position_of e) r) ≡ running_of plan (Then T e) (position_of e) r
      → (if k == position_of e && is_same_role r role then x else running k r) ≡ running_of plan (Then T e) k r
  changed e role r k x y = grind (arith, nat_tests, y, h k r, runs_other plan T e k r)

  module _ (i : ℕ) (job : Job) (role r : Role) (g : slice_get plan i ≡ Some job) (p : job.position ≡ i) (w : history i T ≡ history_before role) where
    pub start_runs : (a : StartAnswer) (k : ℕ) → running_after_start running job role a k r ≡ running_of plan (Then T (Start i role a)) k r
    start_runs (start.Started m) k =
        ap (λ j. if k == j && is_same_role r role then Some (child_of job) else running k r) p
        ∙ changed (Start i role (start.Started m)) role r k (Some (child_of job)) (starts role r (h i r ∙ runs_now plan T i r (history_before role) w)
        ∙ sym (runs_same plan T (Start i role (start.Started m)) r (history_before role) w))
      where
        starts : (role r : Role) → running i r ≡ runs_by plan i r (history_before role)
            → (if is_same_role r role then Some (child_of job) else running i r) ≡ runs_by plan i r (history_before role ++ kind_of_event (Start i role (start.Started m)) ∷ [])
        starts Body Body e = sym (ap (option_map child_of) g)
        starts Cleanup Cleanup e = sym (ap (option_map child_of) g)
        starts role r e = e
    start_runs (start.Refused c) k = grind (arith, nat_tests, here, h k r, runs_other plan T e k r)
      where
        e : Event
        e = Start i role (start.Refused c)

        starts_not : (role r : Role) → runs_by plan i r (history_before role) ≡ runs_by plan i r (history_before role ++ kind_of_event (Start i role (start.Refused c)) ∷ [])
        starts_not Body Body = refl
        starts_not Cleanup Cleanup = refl
        starts_not role r = refl

        here : running i r ≡ running_of plan (Then T e) i r
        here = h i r ∙ (runs_now plan T i r (history_before role) w ∙ (starts_not role r ∙ sym (runs_same plan T e r (history_before role) w)))

  module _ (e : Ended) (k : ℕ) (w : history e.position T ≡ history_while e.role) where
    -- An end stops the child of its case and role, and no other.
    pub end_runs : (r : Role) → running_after_end running e k r ≡ running_of plan (Then T (End e)) k r
    end_runs r = changed (End e) e.role r k None (ends e.role r (h e.position r ∙ runs_now plan T e.position r (history_while e.role) w)
        ∙ sym (runs_same plan T (End e) r (history_while e.role) w))
      where
        ends : (role r : Role) → running e.position r ≡ runs_by plan e.position r (history_while role)
            → (if is_same_role r role then None else running e.position r) ≡ runs_by plan e.position r (history_while role ++ end_kind role ∷ [])
        ends Body Body e = refl
        ends Cleanup Cleanup e = refl
        ends role r e = e

    pub end_owes : (pending : ℕ → Bool) → pending k ≡ false → pending_after_end running pending e k ≡ is_pending_case (pending_cleanup plan (Then T (End e))) k
    end_owes pending p =
        rw p (ap (λ b. if k == e.position && b then true else false) (declared e.role refl)
        ∙ owed_by (is_same_role e.role Body && case_declares_cleanup plan e.position))
      where
        declared_is : (o : Option Job) → has_declared_cleanup (option_map child_of o) ≡ (elim o as (λ _. Bool) [ None ↦ false | Some job ↦ job.cleanup ])
        declared_is None = refl
        declared_is (Some job) = refl

        declared : (role : Role) → e.role ≡ role
            → (is_same_role e.role Body && has_declared_cleanup (running e.position Body)) ≡ (is_same_role e.role Body && case_declares_cleanup plan e.position)
        declared Body q =
            let x = h e.position Body ∙ runs_now plan T e.position Body (history_while Body) (w ∙ ap history_while q) in
            ap (λ b. is_same_role e.role Body && b) (ap has_declared_cleanup x ∙ declared_is (slice_get plan e.position))
        declared Cleanup q = rw q refl

        owed_by : (d : Bool) → (if k == e.position && d then true else false) ≡ is_pending_case (if d then Some e.position else None) k
        owed_by d = grind (arith, nat_tests)

pub cleared : (i k : ℕ) → (if k == i then false else k == i) ≡ false
cleared i k = grind (arith, nat_tests)

-- A child that `running_of` gives runs after the trace.
pub runs_true : (plan : List Job) (T : Trace) (i : ℕ) (r : Role) (child : Child) → running_of plan T i r ≡ Some child
    → (runs i r T ≡ true) × ((job : Job) × (slice_get plan i ≡ Some job) × (child ≡ child_of job))
runs_true plan T i r child g = by (runs i r T) (slice_get plan i) refl refl g
  where
    by : (b : Bool) (o : Option Job) → runs i r T ≡ b → slice_get plan i ≡ o → (if b then option_map child_of o else None) ≡ Some child
        → (runs i r T ≡ true) × ((job : Job) × (slice_get plan i ≡ Some job) × (child ≡ child_of job))
    by true (Some job) e q h = (e, (job, q, cc))
    by b o e q h = absurd (cc)

-- `up_to stopped T`: the first `k` events of `T` if `stopped` is `Some k`, or all events if no put
-- failed.
abbrev pub up_to : Option ℕ → Trace → Trace
up_to None T = T
up_to (Some k) T = first_events k T

-- `Fair plan n T e`: the event `e` after the events `T` keeps the rules for each event, in the run
-- of `plan` with the width `n`.
pub record Fair (plan : List Job) (n : ℕ) (T : Trace) (e : Event) : Type 0 where
  pub fits : FitsAt plan T e
  pub width : KeepsWidth plan n T e
  pub exclusive : KeepsExclusive plan T e
  pub prompt : KeepsCleanupNext plan T e

pub each_of : {P Q : Trace → Event → Type 0} (T : Trace) → ((U : Trace) (e : Event) → P U e → Q U e) → HoldsAtEachEvent P T → HoldsAtEachEvent Q T
each_of NoEvent f h = tt
each_of (Then T e) f h = (each_of T f h.0, f T e h.1)

-- `Until plan n stopped T`: the rules that the trace `T` of a run of `plan` with the width `n`
-- keeps up to a failed put. `stopped` is the number of events before that put, if any. No body
-- starts after it.
pub record Until (plan : List Job) (n : ℕ) (stopped : Option ℕ) (T : Trace) : Type 0 where
  pub busy : HoldsAtEachEvent (WaitsWhenBusy plan n) (up_to stopped T)
  pub begun : body_starts T ≡ body_starts (up_to stopped T)
  pub passed : IfSome stopped (λ k. k ≤ event_count T)

first_past : (k : ℕ) (T : Trace) (e : Event) → k ≤ event_count T → first_events k (Then T e) ≡ first_events k T
first_past k T e h = grind (arith, nat_tests)

first_all : (T : Trace) → first_events (event_count T) T ≡ T
first_all NoEvent = refl
first_all (Then T e) = grind (arith, nat_tests)

module _ (plan : List Job) (n : ℕ) where
  pub until_more : (o : Option ℕ) (T : Trace) (e : Event) → Until plan n o T → (is_some o ≡ false → WaitsWhenBusy plan n T e)
      → (is_some o ≡ true → body_start_of e ≡ []) → Until plan n o (Then T e)
  until_more None T e u f g = record { busy = (u.busy, f refl); begun = refl; passed = tt }
  until_more (Some k) T e u f g =
      let x = sym (first_past k T e u.passed) in
      record {
        busy = subst (HoldsAtEachEvent (WaitsWhenBusy plan n)) x u.busy;
        begun = ap (λ xs. body_starts T ++ xs) (g refl) ∙ (append-nil (body_starts T) ∙ (u.begun ∙ ap body_starts x));
        passed = omega (arith, u.passed);
      }

  pub until_now : (o : Option ℕ) (T : Trace) → is_some o ≡ false → Until plan n o T → Until plan n (Some (event_count T)) T
  until_now None T f u =
      record { busy = subst (HoldsAtEachEvent (WaitsWhenBusy plan n)) (sym (first_all T)) u.busy; begun = ap body_starts (sym (first_all T)); passed = omega arith }
  until_now (Some k) T f u = absurd (cc)

-- `Going l plan n T old new`: the events `T` lead the launcher `l` from `old` to `new`. They keep
-- the rules of the schedule of `plan` with the width `n`.
pub record Going {L : Type 0} (l : launcher.Ghosts L) (plan : List Job) (n : ℕ) (T : Trace) (old new : L) : Type 0 where
  pub leads : Leads l.starts l.waits plan T old new
  pub runs : (k : ℕ) (r : Role) → l.running new k r ≡ running_of plan T k r
  pub owes : (k : ℕ) → l.pending new k ≡ is_pending_case (pending_cleanup plan T) k
  pub rules : HoldsAtEachEvent (Fair plan n) T

-- `Startable running pending plan n fed i role`: the next step after the responses `fed`, in the
-- run of `plan` with the width `n`, may be the start of case `i` in the role `role`. It meets the
-- rules of the schedule, and the launcher's conditions for the running children `running` and the
-- pending cleanups `pending`.
pub record Startable (running : ℕ → Role → Option Child) (pending : ℕ → Bool) (plan : List Job) (n : ℕ) (fed : Responses) (i : ℕ) (role : Role) : Type 0 where
  pub may : MayStart running pending i role
  pub now : MayStartNow plan fed.trace i role
  pub history_is : history i fed.trace ≡ history_before role
  pub clears : (k : ℕ) → pending_after_start pending i role k ≡ false
  pub fair : (a : StartAnswer) → HasValidTimestamp a → Fair plan n fed.trace (Start i role a)
  pub quiet : (a : StartAnswer) → has_failed fed ≡ true → body_start_of (Start i role a) ≡ []
  pub due : has_failed fed ≡ false → IsUpToDate plan n fed
