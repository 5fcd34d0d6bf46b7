-- The names that most proofs of this crate cite, re-exported. Declares nothing.
pub use Rattle.std.proofs.Common.{Some, None, ◌≡◌, get_or, ℕ, zero, suc, ◌+◌, ◌≤◌, true, false, List, [], ◌∷◌, ◌++◌, length, drop, refl, sym, ◌∙◌, ap, arith, slice_get, filter, count_by, Option, is_some, is_none, not, ◌==◌, ◌&&◌, ◌||◌, if◌then◌else◌, ◌≢◌, ◌<◌, ◌⊎◌, Bool, cond, subst, inl, inr, append-nil, ◌-◌, map, IfSome, take, length-append, Err, Result, Ok, ◌^◌, append_assoc, nat_lt, sum_by, slice_set, MatchOption}
pub use Rattle.std.proofs.Math.Bool.{and-true, or-false}
pub use Rattle.std.proofs.Math.ListN.{drop_of_length-le}
pub use Rattle.std.proofs.Math.Seq.{drop-append_seam, take-append_seam}
pub use Rattle.std.proofs.lemmas.List.Filters.{sum_by-filter_both}
pub use Rattle.std.proofs.lemmas.Result.{err_from_is_err_and}
pub use Rattle.std.proofs.lemmas.Bool.{and_from, and_parts, and_right, cases_Bool, cases_eq, cases_lt, false_from_ne_true, ne_eqb, or_left, or_right}
pub use Rattle.std.proofs.lemmas.Bool.Decides.{nat_tests}
pub use Rattle.std.proofs.lemmas.List.{drop-append-le, length-map, length-set, map-append, take-append-drop, take-append-le}
pub use Rattle.std.proofs.lemmas.List.Elements.{filter-append}
pub use Rattle.std.proofs.lemmas.List.Sums.{count_by-le-length, length-filter, sum_by-append, sum_by-cons}
pub use Rattle.std.proofs.lemmas.Option.{slice_get-map, slice_get_cases, slice_get_read, slice_get_within}
pub use Rattle.std.specs.List.{list_all, list_any}
pub use Rattle.std.specs.Option.{option_map, option_to_list}
pub use Rattle.std.specs.Prelude.{⊤}
pub use Rattle.kt_base.specs.Moments.{IsMoment, IsStorable}
pub use Rattle.kt_sched.specs.Types.{Answer, Body, CaseRecord, Cleaning, Cleanup, Decided, Ended, EndedBody, Entry, Finished, VerdictValue, PendingCleanup, Running, SinkFault, Stage, StartAnswer, Taken, Totals, Waiting}
pub use Rattle.kt_sched.specs.Common.{Case, IsPlan, Job, Next, Role}
pub use Rattle.kt_sched.specs.Children.{Child, IsEvidence, IsIdle, MayStart, child_of, pending_after_end, pending_after_start, running_after_end, running_after_start, is_same_role, has_declared_cleanup}
pub use Rattle.kt_sched.specs.EntryOf.{AreEntries, PutsInOrder, IsEntry, IsEntryOf, cleaned, decided, ended, empty_output, refused, uncleaned}
pub use Rattle.kt_sched.specs.Responses.{Responses, IsAnswerTo, has_failed, no_responses, role_runs, runs}
pub use Rattle.kt_sched.specs.History.{BodyEnded, BodyRefused, BodyStarted, CleanupEnded, CleanupRefused, CleanupStarted, EventKind, active, end_kind, has_whole_history, history, is_active, is_body_started, is_whole, kind_of_event}
pub use Rattle.kt_sched.specs.Inner.Answers.{CanCount, responses_after_put, counted}
pub use Rattle.kt_sched.specs.Inner.Cases.{ChangesStage, ReplacesStage, TakesEntry, can_start, initial_case, initial_stage, is_over, pending_at, positions_where, ready_at, record_after_cleanup, stage_runs}
pub use Rattle.kt_sched.specs.Inner.Choice.{IsChosen, HasNoTurn, IsStartableCase}
pub use Rattle.kt_sched.specs.Next.{AreWhole, HasStepFacts, IsNext, IsUpToDate, MayStartBody, MayStartNow, WerePutsAllowed}
pub use Rattle.kt_sched.specs.RecordOrder.{ScheduledPut, jobs_before, scheduled_puts, jobs_finished_by, is_begun, is_put_allowed, puts_scheduled_at, recorded, was_put_allowed}
pub use Rattle.kt_sched.specs.Run.{Counts, HasFailedPut, FitsAt, NamesEachOnce, RunsPlan}
pub use Rattle.kt_sched.specs.SchedState.{TracksAllowedPuts, IsNotTaken, RepresentsCase, RepresentCases, HasDecidedFlag, HasExclusiveFlag, HasRecord, HasTurn, HoldsForEachRun, HasRequested, IsSettled, IsStage, IsReachable, RepresentPuts, SchedState, RepresentsRun, RecordsEvent, RepresentsTurn, unstarted_record, ended_body, entry_with, is_active_stage, is_decided, is_decided_stage, is_waiting_stage, is_pending_case, is_pending_stage, is_undecided, allowed_puts, positions, record_in, stage_changes_left, changes_left}
pub use Rattle.kt_sched.specs.ScheduleRules.{KeepsExclusive, IsExclusiveAtStart, WaitsWhenBusy, HoldsAtEachEvent, IsBusy, MayStartExclusive, Order, KeepsCleanupNext, KeepsWidth, case_declares_cleanup, pending_cleanup}
pub use Rattle.kt_sched.specs.Trace.{End, Event, HasValidTimestamp, Leads, NoEvent, Start, Then, Trace, event_count, first_events, events_of, position_of}
pub use Rattle.kt_sched.specs.TurnOrder.{body_start_of, body_starts, next_to_start, turns, undecided_turns}
