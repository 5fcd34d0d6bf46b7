-- The next attempt number never decreases, and no number occurs twice in a driver state.
use Rattle.std.proofs.Common.{◌≡◌, ℕ, ◌==◌, ◌&&◌, ◌+◌, ◌-◌, ◌^◌, ◌<◌, ◌≤◌, List, [], ◌∷◌, ◌++◌, Bool, true, false, map, refl, sym, ◌∙◌, ap, subst, arith, inl, inr}
use Rattle.kt_child.proofs.Common.{nat_tests, PolledChild, DriverState, Body, Cleanup, Call, CaseAttempt, Chain, Driver, End, Ended, Ends, AddsResponse, Job, NoEvent, Role, Runs, Start as Started, StartAnswer, Starts, Then, Trace, children_after_start, child_timeout_seconds, one_if, AttemptsDiffer, HasUniqueNumbers, AttemptNumbersAreUnique, numbers, occurrences, Request, Wait, ListOf, Serves, ServesAll, is_attempt}
use Rattle.kt_child.specs.Driving.Numbers.{Start}
use Rattle.kt_sched.specs.declared.job.StartAnswer.TheVariants.{Started as StartedAt, Refused as RefusedFor}
use Rattle.kt_child.specs.Driving.DriverState.{killed, later, paused, polled}
use Rattle.kt_child.proofs.CaseCounts.{one_if_is, times_less, times_more, times_owed}

-- No request decreases the next number, and an attempt increases it.
serves : {O : Type 0} (leads : O → Call → O → Type 0) (d e : Driver O) (request : Request) → Serves leads d request e
    → (d.next ≤ e.next) × (is_attempt request ≡ true → d.next < 2 ^ 64 - 1 → d.next < e.next)
serves leads d e (Start job role answer) ((_, _, inl (_, l, _, _, same)), _, _) =
    (omega (arith, ap (λ (b : DriverState). b.next) same), λ is lt. absurd (omega (arith, l)))
serves leads d e (Start job Cleanup answer) ((_, _, inr (_, (_, _, _, _, n, _, _), _, _)), _, _) = (omega arith, λ is. absurd (cc))
serves leads d e (Start job Body answer) ((_, _, inr (_, ((_, _, n), _, _), _, _)), _, _) = (omega arith, λ is lt. omega arith)
serves leads d e (Wait ended) ((calls, chain, waited), source, root) = (omega (arith, waited.0.next), λ is. absurd (cc))
serves leads d e (ListOf program variables answer) (inl (l, refused, os, n), running, source, root) = (omega arith, λ is lt. absurd (omega arith))
serves leads d e (ListOf program variables answer) (inr (inl (l, n, refused, os)), running, source, root) = (omega arith, λ is lt. omega arith)
serves leads d e (ListOf program variables answer) (inr (inr (l, n, ran)), running, source, root) = (omega arith, λ is lt. omega arith)

-- No sequence of requests decreases the next number.
all_rise : {O : Type 0} (leads : O → Call → O → Type 0) (requests : List Request) (d e : Driver O) → ServesAll leads d requests e → d.next ≤ e.next
all_rise {O} leads [] d e h = omega (arith, ap (λ (x : Driver O). x.next) h)
all_rise leads (request ∷ requests) d e (mid, first, rest) = omega (arith, (serves leads d mid request first).0, all_rise leads requests mid e rest)

-- No two attempts of a driver have the same number.
pub attempts_differ : {O : Type 0} (leads : O → Call → O → Type 0) → AttemptsDiffer leads
attempts_differ leads attempt requests d e f is lt served all =
    omega (arith, (serves leads d e attempt served).1 is lt, all_rise leads requests e f all)

-- The count of a number in two joined lists is the sum of its counts.
times_join : (n : ℕ) (xs ys : List ℕ) → occurrences n (xs ++ ys) ≡ occurrences n xs + occurrences n ys
times_join n [] ys = omega arith
times_join n (x ∷ xs) ys = omega (arith, times_join n xs ys)

-- `runs_by a`: the attempt number of the running child `a`.
abbrev runs_by : PolledChild → ℕ
runs_by a = a.case.attempt

-- `owed_by c`: the attempt number of the pending case `c`.
abbrev owed_by : CaseAttempt → ℕ
owed_by c = c.attempt

-- No call changes the attempt numbers of the running children.
call_kept : (old new : List PolledChild) (call : Call) → AddsResponse old call new → map runs_by new ≡ map runs_by old
call_kept _ _ _ (polled a others answer) = refl
call_kept _ _ _ (killed a others done) = refl
call_kept _ _ _ (later a others after call h) = ap (λ t. a.case.attempt ∷ t) (call_kept others after call h)
call_kept _ _ _ (paused alive done) = refl

-- No list of calls changes the attempt numbers of the running children.
calls_kept : (calls : List Call) (old new : List PolledChild) → Chain AddsResponse old calls new → map runs_by new ≡ map runs_by old
calls_kept [] old new h = ap (map runs_by) h
calls_kept (call ∷ calls) old new (mid, first, rest) = calls_kept calls mid new rest ∙ call_kept old mid call first

-- A start adds the attempt number of its case at most once.
started_most : (n : ℕ) (alive : List PolledChild) (job : Job) (c : CaseAttempt) (answer : StartAnswer)
    → occurrences n (map runs_by (children_after_start alive job c answer)) ≤ occurrences n (map runs_by alive) + one_if (n == c.attempt)
started_most n alive job c (RefusedFor cause) = omega arith
started_most n alive job c (StartedAt moment) =
    omega (arith, times_more runs_by n alive (record { case = c; limit = child_timeout_seconds job c.role; responses = [] }))

-- A number that occurs no more often than before, except the next one if used, stays unique.
apart_still : (t : Bool) (n x y next after : ℕ) → next + one_if t ≤ after → y ≤ x + one_if (t && n == next)
    → (x ≤ 1) × (next ≤ n → x ≡ 0) → (y ≤ 1) × (after ≤ n → y ≡ 0)
apart_still t n x y next after le h (one, none) =
    (grind (arith, nat_tests, one_if_is t, one_if_is (t && n == next)), λ below. grind (arith, nat_tests, one_if_is t, one_if_is (t && n == next)))

-- If no number occurs more often, except the next one if used, `HasUniqueNumbers` stays true.
fewer : (t : Bool) (old new : DriverState) → HasUniqueNumbers old → old.next + one_if t ≤ new.next
    → ((n : ℕ) → occurrences n (map runs_by new.running_children) + occurrences n (map owed_by new.pending_cleanups)
    ≤ occurrences n (map runs_by old.running_children) + occurrences n (map owed_by old.pending_cleanups) + one_if (t && n == old.next)) → HasUniqueNumbers new
fewer t old new apart le h n =
    let x = times_join n (map runs_by old.running_children) (map owed_by old.pending_cleanups) in
    let y = times_join n (map runs_by new.running_children) (map owed_by new.pending_cleanups) in
    apart_still t n (occurrences n (numbers old)) (occurrences n (numbers new)) old.next new.next le (omega (arith, h n, x, y)) (apart n)

-- The attempt numbers in a driver state are different after an end.
ends_apart : (old new : DriverState) (calls : List Call) (e : Ended) → Ends old calls e new → HasUniqueNumbers old → HasUniqueNumbers new
ends_apart old new calls e s apart =
    fewer false old new apart (omega (arith, s.next)) (λ n.
    omega (
      arith,
      ap (occurrences n) (calls_kept s.polls old.running_children s.after s.follows.0),
      times_less runs_by n s.after s.place s.over s.follows.1,
      ap (λ t. occurrences n (map runs_by t)) s.running_children,
      times_owed owed_by n old.pending_cleanups s.over.case,
      ap (λ t. occurrences n (map owed_by t)) s.pending_cleanups,
    ))

-- The attempt numbers in a driver state are different after a start.
starts_apart : (source root : List ℕ) (old new : DriverState) (job : Job) (role : Role) (calls : List Call) (answer : StartAnswer)
    → Starts source root old job role calls answer new → HasUniqueNumbers old → HasUniqueNumbers new
starts_apart source root old new job role calls answer (inl (r, l, refused, none, same)) apart = subst HasUniqueNumbers (sym same) apart
starts_apart source root old new job Cleanup calls answer (inr (c, (place, was, at, position, next, owed, case), begun, alive)) apart =
    fewer false old new apart (omega (arith, next)) (λ n.
    omega (
      arith,
      started_most n old.running_children job c answer,
      ap (λ t. occurrences n (map runs_by t)) alive,
      times_less owed_by n old.pending_cleanups place was at,
      ap (λ t. occurrences n (map owed_by t)) owed,
      ap (λ (t : CaseAttempt). one_if (n == t.attempt)) case,
    ))
starts_apart source root old new job Body calls answer (inr (c, ((lt, number, next), owed, case), begun, alive)) apart =
    fewer true old new apart (omega (arith, next)) (λ n.
    omega (
      arith,
      started_most n old.running_children job c answer,
      ap (λ t. occurrences n (map runs_by t)) alive,
      ap (λ t. occurrences n (map owed_by t)) owed,
      ap (λ (t : CaseAttempt). one_if (n == t.attempt)) case,
    ))

-- The attempt numbers in a driver state are different after a run.
runs_apart : (plan : List Job) (source root : List ℕ) (old : DriverState) (T : Trace) (calls : List Call) (new : DriverState) → Runs plan source root old T calls new → HasUniqueNumbers old → HasUniqueNumbers new
runs_apart plan source root old NoEvent calls new (none, same) apart = subst HasUniqueNumbers (sym same) apart
runs_apart plan source root old (Then T (Started i role answer)) calls new (mid, before, asked, e, runs, (job, at, s)) apart =
    starts_apart source root mid new job role asked answer s (runs_apart plan source root old T before mid runs apart)
runs_apart plan source root old (Then T (End ended)) calls new (mid, before, asked, e, runs, s) apart =
    ends_apart mid new asked ended s (runs_apart plan source root old T before mid runs apart)

-- In each driver state of a run from an idle state, all attempt numbers are different.
pub numbers_differ : AttemptNumbersAreUnique
numbers_differ plan source root next T calls b runs = runs_apart plan source root _ T calls b runs (λ n. (omega arith, λ le. refl))
