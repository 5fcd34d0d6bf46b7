-- Rounds of polls over the running children.
use Rattle.std.specs.Prelude.{◌≡◌, ℕ, zero, suc, List, [], ◌∷◌, ◌++◌, Bool, Option, Some, None, Result, take, slice_get, map}
use Rattle.kt_child.specs.Types.{OsFault, Outcome, ChildState, RunningChild}
use Rattle.kt_child.specs.declared.polling.ChildProgress.TheVariants.{StillRunning, Ended}
use Rattle.kt_os.specs.System.Calls.{Call, Pause}
use Rattle.kt_child.specs.Planning.ChildPlan.{child_of}
use Rattle.kt_child.specs.Polling.Polls.{poll_calls, poll_responses, progress_after_poll, counts_after_running}
use Rattle.kt_child.specs.Polling.ChildOutcome.{Yields, responses_so_far}

-- `child_after_running k`: the running child `k` after one more poll that reports it as running.
abbrev pub child_after_running : RunningChild → RunningChild
child_after_running k = record { case = k.case; limit = k.limit; counts = counts_after_running k.limit k.counts }

-- `children_after_running n children`: the running children `children`, after one more poll of each
-- of the first `n`. Each of these polls reports the child as running.
abbrev pub children_after_running : ℕ → List RunningChild → List RunningChild
children_after_running zero children = children
children_after_running (suc n) [] = []
children_after_running (suc n) (k ∷ children) = child_after_running k ∷ children_after_running n children

-- `PollsAll children calls`: `calls` are one poll of each of the running children `children`, in
-- order, with the kill that may follow a poll. No child has finished.
abbrev pub PollsAll : List RunningChild → List Call → Type 0
PollsAll [] calls = calls ≡ []
PollsAll (k ∷ children) calls =
    (answer : Result ChildState OsFault) × (done : Bool) × (more : List Call)
    × (calls ≡ poll_calls (child_of k.case) k.limit k.counts answer done ++ more)
    × (progress_after_poll k.limit k.counts answer done ≡ StillRunning)
    × PollsAll children more

-- `EndsAtPoll k calls outcome`: `k` is a child, not `None`, and `calls` are one poll of it and the
-- kill that may follow the poll. The child has then finished with `outcome`, which follows from all
-- responses about it (`Yields`).
abbrev pub EndsAtPoll : Option RunningChild → List Call → Outcome → Type 0
EndsAtPoll None calls outcome = ⊥
EndsAtPoll (Some k) calls outcome =
    (answer : Result ChildState OsFault) × (done : Bool)
    × (calls ≡ poll_calls (child_of k.case) k.limit k.counts answer done)
    × (progress_after_poll k.limit k.counts answer done ≡ Ended outcome)
    × Yields k.limit (responses_so_far k.limit k.counts ++ poll_responses k.limit k.counts answer done) outcome

-- `PollsUntil children i calls outcome`: `calls` are one poll of each of the running children
-- `children` from the first to that at the index `i`, in order. A kill may follow a poll. The child
-- at this index is the first that has finished, and `outcome` is its outcome.
abbrev pub PollsUntil : List RunningChild → ℕ → List Call → Outcome → Type 0
PollsUntil children i calls outcome =
    (before : List Call) × (last : List Call) × (calls ≡ before ++ last)
    × PollsAll (take i children) before × EndsAtPoll (slice_get children i) last outcome

-- `PollsInRounds children calls place outcome after`: `calls` poll the running children `children`
-- in rounds until a child has finished. A pause follows each round without a finished child. In the
-- last round, the child at the index `place` finishes with `outcome`. `after` are the children with
-- their poll counts after these polls.
pub data PollsInRounds : List RunningChild → List Call → ℕ → Outcome → List RunningChild → Type 0 where
  last_round : (children : List RunningChild) (calls : List Call) (place : ℕ) (outcome : Outcome)
      → PollsUntil children place calls outcome → PollsInRounds children calls place outcome (children_after_running place children)
  whole_round : (children after : List RunningChild) (round more : List Call) (done : Bool) (place : ℕ) (outcome : Outcome)
      → PollsAll children round → PollsInRounds (map child_after_running children) more place outcome after
      → PollsInRounds children (round ++ Pause done ∷ more) place outcome after
