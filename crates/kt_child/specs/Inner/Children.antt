-- Definitions for the private functions on running children.
use Rattle.std.specs.Prelude.{map, ℕ, ◌==◌, Bool, true, false, ◌≡◌, ◌+◌, ◌≤◌, List, [], ◌∷◌, All, ◌*◌, ◌<◌, ◌++◌}
use Rattle.kt_child.specs.Types.{CaseAttempt, Refused as RefusedFor, StartAnswer, Started as StartedAt, PollCounts, RunningChild}
use Rattle.kt_child.specs.Driving.ChildrenState.{ChildrenState, cases_of}

-- `HasPollsLeft killed limit before after`: more polls may follow for a child with the timeout
-- `limit`, in seconds. Polls reported it as running `before` times before a kill and `after` times
-- after the kill. If it was killed (`killed`), `after` is less than 500. Otherwise `before` is less
-- than 100 for each second of `limit`, and `after` is 0.
abbrev pub HasPollsLeft : Bool → ℕ → ℕ → ℕ → Type 0
HasPollsLeft true limit before after = after < 500
HasPollsLeft false limit before after = (before < 100 * limit) × (after ≡ 0)

-- `AreRunningCounts limit w`: `w` has the poll counts of a child that is still running and has the
-- timeout `limit`, in seconds.
abbrev pub AreRunningCounts : ℕ → PollCounts → Type 0
AreRunningCounts limit w = HasPollsLeft w.killed limit w.before w.after

-- `IsRunningWithin limit w`: `w` has the poll counts of a child that is still running. Its timeout
-- `limit` is at most 1,000,000 seconds.
abbrev pub IsRunningWithin : ℕ → PollCounts → Type 0
IsRunningWithin limit w = AreRunningCounts limit w × (limit ≤ 1000000)

-- `IsRunningChild k`: the child `k` is running, with a timeout of at most 1,000,000 seconds.
abbrev pub IsRunningChild : RunningChild → Type 0
IsRunningChild k = IsRunningWithin k.limit k.counts

-- `TakesBytes has_taken old new bytes`: `new` is the reader `old` after `bytes` were fed to it, in
-- addition to earlier bytes. `has_taken reader all`: `all` are all bytes that were fed to `reader`.
abbrev pub TakesBytes : {R : Type 0} → (R → List ℕ → Type 0) → R → R → List ℕ → Type 0
TakesBytes has_taken old new bytes = (taken : List ℕ) → has_taken old taken → has_taken new (taken ++ bytes)

-- `one_if b`: 1 if `b` is `true`, and otherwise 0.
abbrev pub one_if : Bool → ℕ
one_if true = 1
one_if false = 0

-- `occurrences n numbers`: the number of times that `n` occurs in `numbers`.
abbrev pub occurrences : ℕ → List ℕ → ℕ
occurrences n [] = 0
occurrences n (m ∷ numbers) = one_if (n == m) + occurrences n numbers

-- `count_at i cases`: the number of cases in `cases` that have the position `i`.
abbrev pub count_at : ℕ → List CaseAttempt → ℕ
count_at i cases = occurrences i (map (λ c. c.position) cases)

-- `count_in i b`: the number of cases in `b` that have the position `i` and a running child or a
-- pending cleanup.
abbrev pub count_in : ℕ → ChildrenState → ℕ
count_in i b = count_at i (cases_of b.children) + count_at i b.pending

-- `IsChildrenState children pending`: each of `children` is running, and no two cases of `children`
-- and `pending` have the same position.
pub record IsChildrenState (children : List RunningChild) (pending : List CaseAttempt) : Type 0 where
  pub on : All IsRunningChild children
  pub once : (i : ℕ) → count_at i (cases_of children) + count_at i pending ≤ 1

-- `with_pending b pending`: the running children of `b`, together with `pending`, the cases with a
-- pending cleanup.
abbrev pub with_pending : ChildrenState → List CaseAttempt → ChildrenState
with_pending b pending = record { children = b.children; pending = pending }

-- `state_after_start b child result`: the state `b` of the running children and pending cleanups,
-- after a start of `child` with the result `result`. A started child is appended.
abbrev pub state_after_start : ChildrenState → RunningChild → StartAnswer → ChildrenState
state_after_start b child (StartedAt moment) = record { children = b.children ++ child ∷ []; pending = b.pending }
state_after_start b child (RefusedFor cause) = b
