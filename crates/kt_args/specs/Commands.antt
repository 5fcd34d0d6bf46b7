-- Commands with the values of their options.
use Rattle.std.specs.Prelude.{ℕ, Bool, true, false, List, Option, Some, None, ◌≤◌, ⊤, IfSome}
use Rattle.kt_base.specs.Limits.{greatest_run_number}
use Rattle.kt_args.specs.declared.options.CaseOptions.{CaseOptions}
use Rattle.kt_args.specs.declared.command.Command.{Command}
use Rattle.kt_args.specs.declared.filter_rule.FilterRule.{FilterRule}
use Rattle.kt_args.specs.declared.filter_rule.FilterRule.TheVariants.{AnyFilters, OneCase}
use Rattle.kt_args.specs.declared.command.Command.TheVariants as command

-- `case_options_of c`: the options of the command `c` if it is `list`, `test` or `debug`, and
-- otherwise `None`.
abbrev pub case_options_of : Command → Option CaseOptions
case_options_of (command.List options) = Some options
case_options_of (command.Test options file) = Some options
case_options_of (command.Debug options) = Some options
case_options_of other = None

-- `results_file_of c`: the path of the results file that the command `c` reads or writes, or `None`
-- if it uses no results file.
abbrev pub results_file_of : Command → Option (List ℕ)
results_file_of (command.Test options file) = Some file
results_file_of (command.Report options kinds verbose) = Some options.results
results_file_of (command.ReportJunit options) = Some options.results
results_file_of other = None

-- `adds_run c`: the command `c` is `test`, which adds a run to its results file.
abbrev pub adds_run : Command → Bool
adds_run (command.Test options file) = true
adds_run other = false

-- `filter_rule_of c`: the rule on the number of filters that the command `c` accepts: exactly one
-- for `debug`, and any number for `list` and `test`. The rule of a report is not used.
abbrev pub filter_rule_of : Command → FilterRule
filter_rule_of (command.Debug options) = OneCase
filter_rule_of other = AnyFilters

-- `HasValidRun c`: if the command `c` has a run number, that number is 1 to 1,000,000.
abbrev pub HasValidRun : Command → Type 0
HasValidRun (command.Report options kinds verbose) = IfSome options.run (λ n. (1 ≤ n) × (n ≤ greatest_run_number))
HasValidRun (command.ReportJunit options) = IfSome options.run (λ n. (1 ≤ n) × (n ≤ greatest_run_number))
HasValidRun other = ⊤
