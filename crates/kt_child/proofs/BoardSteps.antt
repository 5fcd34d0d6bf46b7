-- Lemmas on the driver state after a start, a poll, a round and a wait.
use Rattle.std.proofs.Common.{if◌then◌else◌, ◌≡◌, ℕ, zero, suc, List, [], ◌∷◌, ◌++◌, Bool, true, false, Some, Result, map, slice_get, refl, sym, ◌∙◌, ap, subst, append_assoc, remove}
use Rattle.kt_child.proofs.Common.{All, All-cons, All-head, All-nil, All-tail, CaseAttempt, Job, Outcome, StartAnswer, Ended, ChildState, OsFault, RunningChild, ChildrenState, Chain, Call, Kill, Pause, Poll, IsRunningChild, responses_so_far, poll_responses, ChildResponse, KillResponse, PollResponse, FinishesChild, PolledChild, AddsResponse, FinishesByPolls, children_after_start, polled_children, driver_state_of, child_timeout_seconds, new_running_child, state_after_start, poll_calls, is_followed_by_kill, child_of, pending_with, PollsAll, PollsUntil, WaitsForEnd, PollsInRounds, child_after_running, children_after_running, last_round, whole_round}
use Rattle.kt_sched.specs.declared.job.StartAnswer.TheVariants.{Started as StartedAt, Refused as RefusedFor}
use Rattle.kt_child.specs.Driving.DriverState.{killed, later, paused, polled}
use Rattle.kt_child.proofs.Chains.{chain_append}
use Rattle.kt_child.proofs.Outcomes.{goes_on}
use Rattle.kt_child.proofs.CaseSteps.{Left}
use Rattle.std.proofs.lemmas.List.{map-append}
use Rattle.std.proofs.lemmas.Option.{same_Some}

-- `answering k responses`: the child `k` with the responses `responses`.
abbrev answering : RunningChild → List ChildResponse → PolledChild
answering k responses = record { case = k.case; limit = k.limit; responses = responses }

-- A start appends its child to the running children, and doesn't change the pending cases.
pub board_started : (b after : ChildrenState) (job : Job) (c : CaseAttempt) (answer : StartAnswer)
    → after ≡ state_after_start b (new_running_child (child_timeout_seconds job c.role) c) answer
    → (polled_children after.children ≡ children_after_start (polled_children b.children) job c answer) × (after.pending ≡ b.pending)
board_started b after job c (RefusedFor cause) e = rw e (refl, refl)
board_started b after job c (StartedAt moment) e =
    rw e (map-append (λ (x : RunningChild). answering x (responses_so_far x.limit x.counts)) b.children (new_running_child (child_timeout_seconds job c.role) c ∷ []), refl)

-- Responses of the other children don't change the first child.
all_later : (a : PolledChild) (old new : List PolledChild) (calls : List Call) → Chain AddsResponse old calls new → Chain AddsResponse (a ∷ old) calls (a ∷ new)
all_later a old new [] h = ap (λ t. a ∷ t) h
all_later a old new (call ∷ calls) (mid, first, rest) = (a ∷ mid, later a old mid call first, all_later a mid new calls rest)

-- `asked k answer done`: the calls of one poll of the child `k`: the poll with the result `answer`,
-- and the kill that may follow it, with the result `done`.
abbrev asked : RunningChild → Result ChildState OsFault → Bool → List Call
asked k answer done = poll_calls (child_of k.case) k.limit k.counts answer done

-- `after_poll_of k answer done`: the child `k` with all its responses, after a poll with the result
-- `answer` and the kill that may follow it, with the result `done`.
abbrev after_poll_of : RunningChild → Result ChildState OsFault → Bool → PolledChild
after_poll_of k answer done = answering k (responses_so_far k.limit k.counts ++ poll_responses k.limit k.counts answer done)

-- A poll of the first child appends its responses.
poll_heard : (k : RunningChild) (others : List PolledChild) (answer : Result ChildState OsFault) (done : Bool)
    → Chain AddsResponse (answering k (responses_so_far k.limit k.counts) ∷ others) (asked k answer done) (after_poll_of k answer done ∷ others)
poll_heard k others answer done = by (is_followed_by_kill k.limit k.counts answer)
  where
    H : List ChildResponse
    H = responses_so_far k.limit k.counts

    by : (t : Bool) → Chain AddsResponse (answering k H ∷ others) (if t then Poll (child_of k.case) answer ∷ Kill (child_of k.case) done ∷ [] else Poll (child_of k.case) answer ∷ [])
        (answering k (H ++ (if t then PollResponse answer ∷ KillResponse done ∷ [] else PollResponse answer ∷ [])) ∷ others)
    by true = (_, polled (answering k H) others answer, (_, killed (answering k (H ++ PollResponse answer ∷ [])) others done, simp append_assoc))
    by false = (_, polled (answering k H) others answer, refl)

-- If the first child still runs after its poll, the responses of this poll and of the later calls
-- are all responses.
first_heard : (k : RunningChild) (ks : List RunningChild) (answer : Result ChildState OsFault) (done : Bool) (more calls : List Call) (new : List PolledChild)
    → responses_so_far k.limit (child_after_running k).counts ≡ responses_so_far k.limit k.counts ++ poll_responses k.limit k.counts answer done → calls ≡ asked k answer done ++ more
    → Chain AddsResponse (polled_children ks) more new → Chain AddsResponse (polled_children (k ∷ ks)) calls (answering k (responses_so_far k.limit (child_after_running k).counts) ∷ new)
first_heard k ks answer done more calls new goes e h =
    rw (e, goes) (chain_append AddsResponse (polled_children (k ∷ ks)) (after_poll_of k answer done ∷ polled_children ks) (after_poll_of k answer done ∷ new) (asked k answer done) more
    (poll_heard k (polled_children ks) answer done) (all_later (after_poll_of k answer done) (polled_children ks) new more h))

-- A round without a finished child appends one response to each child.
turn_heard : (ks : List RunningChild) (calls : List Call) → All IsRunningChild ks → PollsAll ks calls → Chain AddsResponse (polled_children ks) calls (polled_children (map child_after_running ks)) × All IsRunningChild (map child_after_running ks)
turn_heard [] calls on h = (rw h refl, All-nil IsRunningChild)
turn_heard (k ∷ ks) calls on (answer, done, more, e, went, turn) =
    let is = All-head IsRunningChild k ks on in
    let g = goes_on k.limit k.counts answer done is.0 went in
    let r = turn_heard ks more (All-tail IsRunningChild k ks on) turn in
    (first_heard k ks answer done more calls (polled_children (map child_after_running ks)) g.0 e r.0, All-cons IsRunningChild (child_after_running k) (map child_after_running ks) (g.1, is.1) r.1)

-- `OverAt ks calls after place outcome`: after `calls`, which poll the children `ks`, the child at
-- the index `place` has finished with `outcome`. `after` are the children at that time.
abbrev pub OverAt : List RunningChild → List Call → List RunningChild → ℕ → Outcome → Type 0
OverAt ks calls after place outcome =
    (alive : List PolledChild) × (a : PolledChild) × FinishesByPolls (polled_children ks) calls alive place a outcome
    × (remove alive place ≡ polled_children (remove after place)) × ((k : RunningChild) → slice_get after place ≡ Some k → a.case ≡ k.case)

-- A round up to a finished child gives its outcome by all its responses.
until_heard : (ks : List RunningChild) (place : ℕ) (calls : List Call) (outcome : Outcome) → All IsRunningChild ks → PollsUntil ks place calls outcome
    → OverAt ks calls (children_after_running place ks) place outcome
until_heard [] place calls outcome on (before, last, e, none, over) = absurd over
until_heard (k ∷ ks) zero calls outcome on (before, last, e, none, (answer, done, f, ended, row)) =
    let a = after_poll_of k answer done in
    rw (e, none, f) (a ∷ polled_children ks, a, (poll_heard k (polled_children ks) answer done, refl, row), refl, λ j h. ap (λ (t : RunningChild). t.case) (same_Some k j h))
until_heard (k ∷ ks) (suc place) calls outcome on (before, last, e, (answer, done, more, f, went, turn), over) =
    let g = goes_on k.limit k.counts answer done (All-head IsRunningChild k ks on).0 went in
    let r = until_heard ks place (more ++ last) outcome (All-tail IsRunningChild k ks on) (more, last, refl, turn, over) in
    let now = answering k (responses_so_far k.limit (child_after_running k).counts) in
    let same = e ∙ ap (λ t. t ++ last) f ∙ append_assoc (asked k answer done) more last in
    (now ∷ r.0, r.1, (first_heard k ks answer done (more ++ last) calls r.0 g.0 same r.2.0, r.2.1, r.2.2), ap (λ t. now ∷ t) r.3, r.4)

-- A wait gives the outcome of the finished child by all its responses.
pub wait_heard : (ks : List RunningChild) (calls : List Call) (place : ℕ) (outcome : Outcome) (after : List RunningChild) → All IsRunningChild ks → PollsInRounds ks calls place outcome after
    → OverAt ks calls after place outcome
wait_heard _ _ _ _ _ on (last_round ks calls place outcome until) = until_heard ks place calls outcome on until
wait_heard _ _ _ _ _ on (whole_round ks after turn more done place outcome all waited) =
    let t = turn_heard ks turn on all in
    let u = wait_heard (map child_after_running ks) more place outcome after t.1 waited in
    let now = polled_children (map child_after_running ks) in
    (u.0, u.1, (chain_append AddsResponse (polled_children ks) now u.0 turn (Pause done ∷ more) t.0 (now, paused now done, u.2.0), u.2.1, u.2.2), u.3, u.4)

-- A wait of the running children (`PollsInRounds`) is an end in the driver state (`Ends`).
pub waited_ends : (old new : ChildrenState) (calls : List Call) (e : Ended) → All IsRunningChild old.children → Left old calls e new
    → (next : ℕ) → WaitsForEnd old.children (driver_state_of old next) calls e new.children (driver_state_of new next)
waited_ends old new calls e on w next =
    let o = wait_heard old.children w.polls w.place w.outcome w.after on w.waited in
    let case : o.1.case ≡ w.over.case = o.4 w.over w.there in
    let L : Outcome → Type 0 = λ t. FinishesChild w.over.case w.rest t e in (
      record {
        polls = w.polls;
        leaving = w.rest;
        asked = w.asked;
        after = o.0;
        place = w.place;
        over = o.1;
        follows = rw w.left.10 o.2;
        left = rw case (subst L (sym w.left.10) w.left);
        running_children = ap polled_children w.children ∙ sym o.3;
        pending_cleanups = w.pending ∙ ap (λ t. pending_with t old.pending) (sym case);
        next = refl;
      },
      w.after,
      rw w.left.10 w.waited,
      w.children,
    )
