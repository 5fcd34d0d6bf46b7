-- The messages of errors that stop a command.
use Rattle.std.specs.Prelude.{ℕ, List, ◌++◌, codes}
use Rattle.kt_plan.specs.Types.{SelectionError}
use Rattle.kt_config.specs.FaultMessages.{config_message}
use Rattle.kt_suite.specs.FaultMessages.{fault_message, filter_message}
use Rattle.kt_plan.specs.declared.selection_error.SelectionError.TheVariants as stop

-- `quoted_message what word fault`: the message of an error in the argument `word`. `what` is the
-- kind of the argument, such as `filter`, and `fault` is the message without the argument.
abbrev pub quoted_message : List ℕ → List ℕ → List ℕ → List ℕ
quoted_message what word fault = what ++ codes " '" ++ word ++ codes "': " ++ fault

-- `selection_error_message stop`: the message of `stop`, an error that stops a command, in
-- characters and without a newline.
abbrev pub selection_error_message : SelectionError → List ℕ
selection_error_message (stop.NoMemory refusal) = codes "out of memory"
selection_error_message stop.UnreadableConfiguration = codes "configuration: could not be read"
selection_error_message (stop.Configuration fault) = codes "configuration: " ++ config_message fault
selection_error_message (stop.Variable name fault) = quoted_message (codes "variable") name (config_message fault)
selection_error_message (stop.Filter word fault) = quoted_message (codes "filter") word (filter_message fault)
selection_error_message stop.NeedsCase = codes "debug needs PROGRAM:CASE"
selection_error_message (stop.Tree fault) = fault_message fault
selection_error_message stop.TooManyCases = codes "too many cases"
