-- One poll of a child: its calls, and the child's state and poll counts after it.
use Rattle.std.specs.Prelude.{ℕ, ◌+◌, ◌*◌, ◌==◌, List, [], ◌∷◌, Bool, true, false, not, ◌&&◌, Result, Ok, Err, if◌then◌else◌}
use Rattle.kt_child.specs.Types.{Child, Exited as PolledExit, OsFault, ChildState, Running, Signaled as PolledSignal, PollCounts}
use Rattle.kt_base.specs.declared.child.Outcome.TheVariants.{Exited, Signaled, TimedOut, WaitFailed}
use Rattle.kt_child.specs.declared.polling.ChildProgress.{ChildProgress}
use Rattle.kt_child.specs.declared.polling.ChildProgress.TheVariants.{StillRunning, Ended}
use Rattle.kt_os.specs.System.Calls.{Call, Poll, Kill}
use Rattle.kt_child.specs.Polling.ChildOutcome.{ChildResponse, KillResponse, PollResponse}

-- `reaches_timeout limit w`: the next poll that reports a child as running reaches the child's
-- timeout of `limit` seconds. `w` has the poll counts of the child, which was not killed.
abbrev pub reaches_timeout : ℕ → PollCounts → Bool
reaches_timeout limit w = not w.killed && (w.before + 1 == 100 * limit)

-- `is_followed_by_kill limit w result`: a kill follows a poll with the result `result`: the poll
-- failed, or the child reached its timeout (`reaches_timeout`). The child has the timeout `limit`,
-- in seconds, and before the poll it had the poll counts `w`.
abbrev pub is_followed_by_kill : ℕ → PollCounts → Result ChildState OsFault → Bool
is_followed_by_kill limit w (Err _) = true
is_followed_by_kill limit w (Ok Running) = reaches_timeout limit w
is_followed_by_kill limit w (Ok status) = false

-- `poll_calls child limit w answer done`: the calls of one poll of `child`: the poll with the
-- result `answer`, and the kill that may follow it, with the result `done`. `limit` is the child's
-- timeout in seconds, and `w` has its poll counts before the poll.
abbrev pub poll_calls : Child → ℕ → PollCounts → Result ChildState OsFault → Bool → List Call
poll_calls child limit w answer done =
    if is_followed_by_kill limit w answer then Poll child answer ∷ Kill child done ∷ [] else Poll child answer ∷ []

-- `poll_responses limit w answer done`: the responses about a child in one poll: `answer` to the
-- poll, and `done` to the kill that may follow it. `limit` is the child's timeout in seconds, and
-- `w` has its poll counts before the poll.
abbrev pub poll_responses : ℕ → PollCounts → Result ChildState OsFault → Bool → List ChildResponse
poll_responses limit w answer done = if is_followed_by_kill limit w answer then PollResponse answer ∷ KillResponse done ∷ [] else PollResponse answer ∷ []

-- `progress_after_poll limit w result done`: the state of a child after a poll with the result
-- `result`, and after the kill that may follow it, with the result `done`. `limit` is the child's
-- timeout in seconds, and `w` has its poll counts before the poll.
abbrev pub progress_after_poll : ℕ → PollCounts → Result ChildState OsFault → Bool → ChildProgress
progress_after_poll limit w (Err _) done = Ended WaitFailed
progress_after_poll limit w (Ok (PolledExit code)) done = Ended (if w.killed then TimedOut else Exited code)
progress_after_poll limit w (Ok (PolledSignal signal core)) done = Ended (if w.killed then TimedOut else Signaled signal core)
progress_after_poll limit w (Ok Running) done =
    if w.killed then (if w.after + 1 == 500 then Ended WaitFailed else StillRunning)
    else (if w.before + 1 == 100 * limit then (if done then StillRunning else Ended WaitFailed) else StillRunning)

-- `counts_after_running limit w`: the poll counts of a child after one more poll that reports it as
-- running. `w` has the counts before, and `limit` is the child's timeout in seconds. At the
-- timeout, the child counts as killed.
abbrev pub counts_after_running : ℕ → PollCounts → PollCounts
counts_after_running limit w =
    if w.killed then record { before = w.before; killed = true; after = w.after + 1 }
    else record { before = w.before + 1; killed = w.before + 1 == 100 * limit; after = w.after }
