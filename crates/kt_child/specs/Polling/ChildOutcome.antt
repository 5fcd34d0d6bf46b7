-- The outcome of a child, by the results of its polls and its kill. A `running` response is the
-- result of a poll that reports the child as running.
use Rattle.std.specs.Prelude.{◌≡◌, ℕ, ◌*◌, ◌<◌, List, [], ◌∷◌, ◌++◌, Bool, true, false, Option, Some, None, Result, Ok, Err, replicate, ◌⊎◌, if◌then◌else◌}
use Rattle.kt_child.specs.Types.{Exited as PolledExit, OsFault, Outcome, ChildState, Running, Signaled as PolledSignal, PollCounts}
use Rattle.kt_base.specs.declared.child.Outcome.TheVariants.{Exited, Signaled, TimedOut, WaitFailed}

-- `ChildResponse`: the result of a poll or of a kill of one child. `done` is `true` if the kill
-- succeeded.
pub data ChildResponse : Type 0 where
  PollResponse : (answer : Result ChildState OsFault) → ChildResponse
  KillResponse : (done : Bool) → ChildResponse

-- `running`: the response of a poll that reports the child as running.
abbrev pub running : ChildResponse
running = PollResponse (Ok Running)

-- `outcome_of state`: the outcome of a child that a poll reports in the state `state`, or `None` if
-- the child is running.
abbrev pub outcome_of : ChildState → Option Outcome
outcome_of Running = None
outcome_of (PolledExit code) = Some (Exited code)
outcome_of (PolledSignal signal core) = Some (Signaled signal core)

-- `YieldsAfterKill left responses outcome`: a child was killed, and the responses `responses` after
-- the kill give `outcome`. An exit or a signal gives a timeout. A failed poll gives a failed wait,
-- and so does the `left`-th poll that reports the child as running.
abbrev pub YieldsAfterKill : ℕ → List ChildResponse → Outcome → Type 0
YieldsAfterKill left responses outcome =
    ((k : ℕ) × (s : ChildState) × (x : Outcome) × (k < left) × (outcome_of s ≡ Some x)
    × (responses ≡ replicate k running ++ PollResponse (Ok s) ∷ []) × (outcome ≡ TimedOut))
    ⊎ ((responses ≡ replicate left running) × (outcome ≡ WaitFailed))
    ⊎ ((k : ℕ) × (f : OsFault) × (done : Bool) × (k < left)
    × (responses ≡ replicate k running ++ PollResponse (Err f) ∷ KillResponse done ∷ []) × (outcome ≡ WaitFailed))

-- `YieldsWithin left responses outcome`: the responses `responses` of a child give `outcome`. An
-- exit or a signal before a kill is the outcome. After the `left`-th poll that reports the child as
-- running, it is killed, and the responses after the kill give the outcome. A failed poll or a
-- failed kill gives a failed wait.
abbrev pub YieldsWithin : ℕ → List ChildResponse → Outcome → Type 0
YieldsWithin left responses outcome =
    ((k : ℕ) × (s : ChildState) × (k < left) × (outcome_of s ≡ Some outcome)
    × (responses ≡ replicate k running ++ PollResponse (Ok s) ∷ []))
    ⊎ ((rest : List ChildResponse) × (responses ≡ replicate left running ++ KillResponse true ∷ rest) × YieldsAfterKill 500 rest outcome)
    ⊎ ((responses ≡ replicate left running ++ KillResponse false ∷ []) × (outcome ≡ WaitFailed))
    ⊎ ((k : ℕ) × (f : OsFault) × (done : Bool) × (k < left)
    × (responses ≡ replicate k running ++ PollResponse (Err f) ∷ KillResponse done ∷ []) × (outcome ≡ WaitFailed))

-- `Yields limit responses outcome`: the responses `responses` of a child with the timeout `limit`,
-- in seconds, give `outcome` (`YieldsWithin`). The timeout is reached after 100 polls for each
-- second.
abbrev pub Yields : ℕ → List ChildResponse → Outcome → Type 0
Yields limit responses outcome = YieldsWithin (100 * limit) responses outcome

-- `initial_counts`: the poll counts of a child that has just started and was not polled yet.
abbrev pub initial_counts : PollCounts
initial_counts = record { before = 0; killed = false; after = 0 }

-- `responses_so_far limit w`: the responses so far of a running child with the timeout `limit`, in
-- seconds, and the poll counts `w`.
abbrev pub responses_so_far : ℕ → PollCounts → List ChildResponse
responses_so_far limit w = if w.killed then replicate (100 * limit) running ++ KillResponse true ∷ replicate w.after running else replicate w.before running
