-- The selection of test cases by the options of a command.
use Rattle.std.specs.Prelude.{List, ◌++◌, Result, Ok, Err}
use Rattle.kt_plan.specs.Types.{Asked, CaseOptions, CaseSelection, CommandSelection, FilterRule, Settings, SelectionError}
use Rattle.kt_plan.specs.Collecting.{LoadsAndSelects, IsLoadAndSelectPrefix}
use Rattle.kt_plan.specs.Configuring.{IsReadPrefix, ReadsSettings}
use Rattle.kt_plan.specs.WorldCalls.{WorldCall, tree_calls, host_calls}
use Rattle.kt_plan.specs.Reply.{Reply}

-- `Selects rule options calls result`: a command with the options `options` selects its cases
-- by the calls `calls` to the world. `result` has the selected cases, or is the first error.
-- The configuration and the filters are read first, then the Kyuafiles and the lists of the
-- programs. `rule` states which filters the command accepts.
pub data Selects (rule : FilterRule) (options : CaseOptions) : List WorldCall → Result CommandSelection SelectionError → Type 0 where
  unsettled : (config_calls : List Reply) (fault : SelectionError) → ReadsSettings rule options config_calls (Err fault) → Selects rule options (host_calls config_calls) (Err fault)
  uncollected : (config_calls : List Reply) (settings : Settings) (load_calls : List Asked) (list_calls : List Reply) (fault : SelectionError) → ReadsSettings rule options config_calls (Ok settings)
      → LoadsAndSelects settings options.kyuafile load_calls list_calls (Err fault) → Selects rule options (host_calls config_calls ++ (tree_calls load_calls ++ host_calls list_calls)) (Err fault)
  selected : (config_calls : List Reply) (settings : Settings) (load_calls : List Asked) (list_calls : List Reply) (chosen : CaseSelection) → ReadsSettings rule options config_calls (Ok settings)
      → LoadsAndSelects settings options.kyuafile load_calls list_calls (Ok chosen)
      → Selects rule options (host_calls config_calls ++ (tree_calls load_calls ++ host_calls list_calls)) (Ok (record { settings = settings; chosen = chosen }))

-- `IsSelectionPrefix rule options calls`: `calls` may be the calls that a selection with
-- the options `options` made to the world before an allocation failed. `rule` states which filters
-- the command accepts.
pub data IsSelectionPrefix (rule : FilterRule) (options : CaseOptions) : List WorldCall → Type 0 where
  settling : (config_calls : List Reply) → IsReadPrefix options.config config_calls → IsSelectionPrefix rule options (host_calls config_calls)
  collecting : (config_calls : List Reply) (settings : Settings) (load_calls : List Asked) (list_calls : List Reply) → ReadsSettings rule options config_calls (Ok settings)
      → IsLoadAndSelectPrefix settings options.kyuafile load_calls list_calls → IsSelectionPrefix rule options (host_calls config_calls ++ (tree_calls load_calls ++ host_calls list_calls))
