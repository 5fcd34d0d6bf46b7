-- Histories: the kinds of the events of one case, in order.
use Rattle.std.specs.Prelude.{ℕ, Bool, true, false, List, [], ◌∷◌, ◌&&◌, not, map, count_by, is_some, is_none}
use Rattle.std.specs.List.{list_any}
use Rattle.kt_sched.specs.Types.{Body, Cleanup, Job, Refused, Role, Started}
use Rattle.kt_sched.specs.Trace.{Event, Start, End, Trace, events_of}

-- `EventKind`: the kind of an event of a case: a start, a refused start or an end, of its body or
-- its cleanup.
pub data EventKind : Type 0 where
  BodyStarted : EventKind
  BodyRefused : EventKind
  BodyEnded : EventKind
  CleanupStarted : EventKind
  CleanupRefused : EventKind
  CleanupEnded : EventKind

-- `end_kind role`: the kind of the end of a child in the role `role`.
abbrev pub end_kind : Role → EventKind
end_kind Body = BodyEnded
end_kind Cleanup = CleanupEnded

-- `kind_of_event event`: the kind of `event`, by its role and its response.
abbrev pub kind_of_event : Event → EventKind
kind_of_event (Start i Body (Started moment)) = BodyStarted
kind_of_event (Start i Body (Refused cause)) = BodyRefused
kind_of_event (Start i Cleanup (Started moment)) = CleanupStarted
kind_of_event (Start i Cleanup (Refused cause)) = CleanupRefused
kind_of_event (End ended) = end_kind ended.role

-- `history i T`: the kinds of the events of case `i` in the trace `T`, in order.
abbrev pub history : ℕ → Trace → List EventKind
history i T = map kind_of_event (events_of i T)

-- `is_whole job history`: `history` is a whole history of the case of `job`: the case is over, and
-- no more events of it follow. For a decided case, the history is empty. For another case, either
-- the start of the body was refused, or the body ended. In the latter case, a declared cleanup has
-- ended or was refused, too.
abbrev pub is_whole : Job → List EventKind → Bool
is_whole job [] = is_some job.decided
is_whole job (BodyRefused ∷ []) = is_none job.decided
is_whole job (BodyStarted ∷ BodyEnded ∷ []) = is_none job.decided && not job.cleanup
is_whole job (BodyStarted ∷ BodyEnded ∷ CleanupRefused ∷ []) = is_none job.decided && job.cleanup
is_whole job (BodyStarted ∷ BodyEnded ∷ CleanupStarted ∷ CleanupEnded ∷ []) = is_none job.decided && job.cleanup
is_whole job other = false

-- `is_body_started kind`: `kind` is the kind of a successful start of a body, not of a refused
-- start.
abbrev pub is_body_started : EventKind → Bool
is_body_started BodyStarted = true
is_body_started other = false

-- `has_whole_history T job`: the history of the case of `job` in the trace `T` is whole: no more
-- events of the case follow (`is_whole`).
abbrev pub has_whole_history : Trace → Job → Bool
has_whole_history T job = is_whole job (history job.position T)

-- `is_active T job`: the case of `job` is active after the events `T`: its body was started, and
-- the case is not over (`is_whole`). A pending or running cleanup keeps the case active.
abbrev pub is_active : Trace → Job → Bool
is_active T job = list_any is_body_started (history job.position T) && not (has_whole_history T job)

-- `active plan T`: the number of active cases of `plan` after the events `T`.
abbrev pub active : List Job → Trace → ℕ
active plan T = count_by (is_active T) plan
