-- The responses of a scheduler so far, and the next possible responses.
use Rattle.std.specs.Prelude.{ℕ, Bool, true, false, List, [], ◌∷◌, ◌≡◌, ◌+◌, Option, Some, None, is_some, ⊤}
use Rattle.kt_sched.specs.Types.{Answer, Body, Cleanup, Next, Refused, Role, Started}
use Rattle.kt_sched.specs.declared.next.Next.TheVariants as next
use Rattle.kt_sched.specs.declared.next.Answer.TheVariants as answer
use Rattle.kt_sched.specs.Trace.{Start, End, Trace, NoEvent, Then, event_count}
use Rattle.kt_sched.specs.History.{EventKind, BodyStarted, BodyEnded, CleanupStarted, history}

-- `Responses`: the responses in a run so far: the trace of the launcher, and the number of stored
-- entries. If a put failed, `failed_put_after` is the number of events before this put, else
-- `None`.
pub record Responses : Type 0 where
  pub trace : Trace
  pub stored : ℕ
  pub failed_put_after : Option ℕ

-- `no_responses`: the responses at the start of a run: no event, no stored entry and no failed put.
abbrev pub no_responses : Responses
no_responses = record { trace = NoEvent; stored = 0; failed_put_after = None }

-- `has_failed fed`: one of the responses `fed` reports a failed put.
abbrev pub has_failed : Responses → Bool
has_failed fed = is_some fed.failed_put_after

-- `responses_after fed asked answer`: the responses `fed`, followed by the response `answer` to the
-- step `asked`. The result is `fed` if `answer` does not fit this step.
abbrev pub responses_after : Responses → Next → Answer → Responses
responses_after fed (next.Start i role) (answer.Started moment) = record fed { trace = Then fed.trace (Start i role (Started moment)) }
responses_after fed (next.Start i role) (answer.Refused cause) = record fed { trace = Then fed.trace (Start i role (Refused cause)) }
responses_after fed next.Wait (answer.Ended ended) = record fed { trace = Then fed.trace (End ended) }
responses_after fed (next.Put i) answer.Stored = record fed { stored = fed.stored + 1 }
responses_after fed (next.Put i) answer.StoreFailed = record fed { failed_put_after = Some (event_count fed.trace) }
responses_after fed asked other = fed

-- `role_runs role history`: a case with the history `history` has a running child in the role
-- `role`.
abbrev pub role_runs : Role → List EventKind → Bool
role_runs Body (BodyStarted ∷ []) = true
role_runs Cleanup (BodyStarted ∷ BodyEnded ∷ CleanupStarted ∷ []) = true
role_runs role other = false

-- `runs i role T`: the child of case `i` in the role `role` runs after the events `T`.
abbrev pub runs : ℕ → Role → Trace → Bool
runs i role T = role_runs role (history i T)

-- `IsAnswerTo T asked answer`: `answer` is a possible response to the step `asked` after the events
-- `T`. If it reports the end of a child, this child runs after `T`.
abbrev pub IsAnswerTo : Trace → Next → Answer → Type 0
IsAnswerTo T (next.Start i role) (answer.Started moment) = ⊤
IsAnswerTo T (next.Start i role) (answer.Refused cause) = ⊤
IsAnswerTo T next.Wait (answer.Ended ended) = runs ended.position ended.role T ≡ true
IsAnswerTo T (next.Put i) answer.Stored = ⊤
IsAnswerTo T (next.Put i) answer.StoreFailed = ⊤
IsAnswerTo T asked other = ⊥
