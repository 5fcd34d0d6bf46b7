-- The calls of a command, in order, up to its end.
use Rattle.std.specs.Prelude.{List, [], ◌++◌, ◌≡◌, Ok, take}
use Rattle.kt_cli.specs.Types.{Candidate, CaseOptions, Chain, CommandSelection, FilterRule, Job, Leads, NoEvent, Reply, StoreCall, Trace, WorldCall, WorldLeads}
use Rattle.kt_metadata.specs.declared.host.Host.{Host}
use Rattle.kt_args.specs.declared.filter_rule.FilterRule.TheVariants.{AnyFilters, OneCase}
use Rattle.kt_plan.specs.Planning.{ArePlanned, ProbesHost, IsProbePrefix}
use Rattle.kt_plan.specs.WorldCalls.{host_calls}
use Rattle.kt_plan.specs.Selecting.{Selects, IsSelectionPrefix}
use Rattle.kt_cli.specs.CommandStates.{World}

-- The calls of one command with their results. `world_calls` are the calls of the world, and
-- `calls` are those of the store, each in order. `plan` are the jobs of the launcher, and `trace`
-- are its events.
pub record CommandCalls : Type 0 where
  pub world_calls : List WorldCall
  pub plan : List Job
  pub trace : Trace
  pub calls : List StoreCall

-- `CallsWorld w seen old new`: the calls `seen` lead the world from state `old` to `new`: first its
-- calls in `seen.world_calls`, then the events of its launcher. `w` has the relations of the world.
pub record CallsWorld {W : Type 0} (w : World W) (seen : CommandCalls) (old new : W) : Type 0 where
  pub begun : W
  pub asked : Chain (WorldLeads w.asks w.replies) old seen.world_calls begun
  pub ran : Leads w.starts w.waits seen.plan seen.trace begun new

-- `OnlyListsCases seen`: by the calls `seen`, no case was started and the store was not called.
-- Programs may have listed their cases.
pub record OnlyListsCases (seen : CommandCalls) : Type 0 where
  pub trace : seen.trace ≡ NoEvent
  pub calls : seen.calls ≡ []

-- `OnlyCallsStore seen`: by the calls `seen`, the world was not called and no case was started. The
-- store may have been called.
pub record OnlyCallsStore (seen : CommandCalls) : Type 0 where
  pub world_calls : seen.world_calls ≡ []
  pub trace : seen.trace ≡ NoEvent

-- `IsPrepared rule options seen picked cases last`: the calls of the world in `seen` are those that
-- select `picked` by `options`, then those for the requirements of `cases`, then `last`. The plan
-- in `seen` is that of `cases`. `rule` states which filters the command accepts.
pub record IsPrepared (rule : FilterRule) (options : CaseOptions) (seen : CommandCalls) (picked : CommandSelection) (cases : List Candidate) (last : List Reply) : Type 0 where
  pub before : List WorldCall
  pub selects : Selects rule options before (Ok picked)
  pub answers : List Reply
  pub host : Host
  pub surveys : ProbesHost cases answers host
  pub asked : seen.world_calls ≡ before ++ (host_calls answers ++ host_calls last)
  pub planned : ArePlanned picked.settings.config host 0 cases seen.plan

-- `executed_cases rule cases`: the cases that a command runs, out of the selected cases `cases`:
-- only the first case if `rule` is `OneCase`, the filter rule of `debug`, and otherwise all cases.
abbrev pub executed_cases : FilterRule → List Candidate → List Candidate
executed_cases AnyFilters cases = cases
executed_cases OneCase cases = take 1 cases

-- `MakesCallPrefix rule options world_calls`: `world_calls` are a prefix of the world calls of a
-- command with `options`, up to a failed allocation. The calls that select cases come first, then
-- those for the requirements of the cases. `rule` states which filters the command accepts.
pub data MakesCallPrefix (rule : FilterRule) (options : CaseOptions) : List WorldCall → Type 0 where
  selecting : (world_calls : List WorldCall) → IsSelectionPrefix rule options world_calls → MakesCallPrefix rule options world_calls
  preparing : (before : List WorldCall) (picked : CommandSelection) (answers : List Reply) → Selects rule options before (Ok picked)
      → IsProbePrefix (executed_cases rule picked.chosen.cases) answers → MakesCallPrefix rule options (before ++ host_calls answers)
