-- The turn order, and the starts of bodies.
use Rattle.std.specs.Prelude.{ℕ, List, [], ◌∷◌, ◌++◌, not, filter, length, Option, slice_get, is_none}
use Rattle.kt_sched.specs.Types.{Body, Job}
use Rattle.kt_sched.specs.Trace.{Event, Start, Trace, NoEvent, Then}

-- `body_start_of event`: the position of the case whose body `event` starts, as a list of at most
-- one position. A refused start counts, too.
abbrev pub body_start_of : Event → List ℕ
body_start_of (Start i Body answer) = i ∷ []
body_start_of other = []

-- `body_starts T`: the positions of the cases whose bodies were started in the trace `T`, in order.
-- Refused starts count, too.
abbrev pub body_starts : Trace → List ℕ
body_starts NoEvent = []
body_starts (Then T e) = body_starts T ++ body_start_of e

-- `turns plan`: the jobs of `plan` in turn order: all jobs that are not exclusive, then all
-- exclusive jobs.
abbrev pub turns : List Job → List Job
turns plan = filter (λ job. not job.exclusive) plan ++ filter (λ job. job.exclusive) plan

-- `undecided_turns plan`: the jobs of `plan` without a decided verdict, in turn order (exclusive
-- jobs come last). Their bodies are to be started.
abbrev pub undecided_turns : List Job → List Job
undecided_turns plan = filter (λ job. is_none job.decided) (turns plan)

-- `next_to_start plan T`: the job of `plan` whose body is to be started next after the events `T`,
-- or `None` if no body is left to start.
abbrev pub next_to_start : List Job → Trace → Option Job
next_to_start plan T = slice_get (undecided_turns plan) (length (body_starts T))
