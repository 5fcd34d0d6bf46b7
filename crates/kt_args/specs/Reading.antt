-- Commands, by the options and arguments that `clap` finds on a command line. A row is an option or
-- an argument: its name and its values.
use Rattle.std.specs.Prelude.{◌≡◌, ◌≢◌, ⊤, ℕ, Bool, false, List, [], Option, Some, None, Result, Ok, Err, map, unwrap_or, option_map, bytes_eq, codes, if◌then◌else◌}
use Rattle.std.specs.Str.{chars}
use Rattle.clap.specs.Words.{Row, Text, all_of, fault_of, first_of, matches_of, subcommand_of}
use Rattle.kt_base.specs.declared.verdict.Kind.{Kind}
use Rattle.kt_args.specs.declared.options.CaseOptions.{CaseOptions}
use Rattle.kt_args.specs.declared.command.Command.{Command}
use Rattle.kt_args.specs.declared.command.Command.TheVariants as command
use Rattle.kt_args.specs.declared.command_fault.CommandFault.{CommandFault}
use Rattle.kt_args.specs.declared.command_fault.CommandFault.TheVariants as fault
use Rattle.kt_args.specs.declared.options.ReportOptions.{ReportOptions}
use Rattle.kt_args.specs.Words.{comma_elements, default_kinds, kinds_of_elements, run_number_of}
use Rattle.kt_args.specs.Grammar.{kyua_app}

-- ---- values by the names of their options

-- `option_text id rows`: the first value of the option `id`, or `None` if it has no value. `rows`
-- are the options and arguments of a command line, with their values.
abbrev pub option_text : Text → List Row → Option (List ℕ)
option_text id rows = option_map chars (first_of id rows)

-- `option_text_or_default instead id rows`: the first value of the option `id`, or the default
-- `instead` if the option has no value. `rows` are the options and arguments of a command line,
-- with their values.
abbrev pub option_text_or_default : Text → Text → List Row → List ℕ
option_text_or_default instead id rows = chars (unwrap_or (first_of id rows) instead)

-- `option_texts id rows`: all values of the option or argument `id`, in order. `rows` are the
-- options and arguments of a command line, with their values.
abbrev pub option_texts : Text → List Row → List (List ℕ)
option_texts id rows = map chars (unwrap_or (all_of id rows) [])

-- `is_true value`: `value`, the optional value of a flag, is present and is the text `true`.
abbrev pub is_true : Option Text → Bool
is_true None = false
is_true (Some word) = bytes_eq word (codes "true")

-- `results_path rows`: the path of the results file (`-r`), or the default `kyua.db` if the option
-- is not given. `rows` are the options and arguments of a command line, with their values.
abbrev pub results_path : List Row → List ℕ
results_path rows = option_text_or_default (codes "kyua.db") (codes "results") rows

-- `run_option value`: the run number in `value`, the optional value of `--run`. The result is
-- `None` if `value` is present but is not a run number, and `Some None` if `value` is absent.
abbrev pub run_option : Option Text → Option (Option ℕ)
run_option None = Some None
run_option (Some word) = option_map Some (run_number_of word)

-- `kinds_option value`: the kinds of verdicts in `value`, the optional value of `--results-filter`.
-- They are the default kinds if `value` is absent. The result is `None` if an element does not name
-- a kind.
abbrev pub kinds_option : Option Text → Option (List Kind)
kinds_option None = Some default_kinds
kinds_option (Some word) = kinds_of_elements (comma_elements word)

-- ---- commands

-- `case_options_in before own`: the options and arguments of `list`, `test` or `debug`. `before`
-- are the options before the command's name, and `own` are the options and arguments after it, with
-- their values.
abbrev pub case_options_in : List Row → List Row → CaseOptions
case_options_in before own = record {
  config = option_text (codes "config") before;
  variables = option_texts (codes "variables") before;
  kyuafile = option_text_or_default (codes "Kyuafile") (codes "kyuafile") own;
  work = option_text_or_default (codes "/tmp") (codes "work") own;
  filters = option_texts (codes "filters") own;
}

-- `report_options before own run'`: the options of a report on the run with the number `run'`, or
-- on the last run if `run'` is `None`. `before` are the options before the command's name, and
-- `own` are the options and arguments after it, with their values.
abbrev pub report_options : List Row → List Row → Option ℕ → ReportOptions
report_options before own run' = record {
  config = option_text (codes "config") before;
  variables = option_texts (codes "variables") before;
  results = results_path own;
  run = run';
}

-- `report_or_error before own kinds run'`: the command `report` with the kinds of verdicts `kinds`
-- and the run number `run'`, or the error of its options. `kinds` is `None` for a wrong results
-- filter: the error is `BadKind`. Otherwise, the error is `BadRun` for a wrong run number, where
-- `run'` is `None`. `run'` is `Some None` if no run number is given. `before` are the options
-- before the command's name, and `own` are the options and arguments after it, with their values.
abbrev pub report_or_error : List Row → List Row → Option (List Kind) → Option (Option ℕ) → Result Command CommandFault
report_or_error before own None run' = Err fault.BadKind
report_or_error before own (Some kinds) None = Err fault.BadRun
report_or_error before own (Some kinds) (Some run') =
    Ok (command.Report (report_options before own run') kinds (is_true (first_of (codes "verbose") own)))

-- `junit_or_error before own run'`: the command `report-junit` with the run number `run'`, or the
-- error `BadRun` for a wrong run number, where `run'` is `None`. `run'` is `Some None` if no run
-- number is given. `before` are the options before the command's name, and `own` are the options
-- and arguments after it, with their values.
abbrev pub junit_or_error : List Row → List Row → Option (Option ℕ) → Result Command CommandFault
junit_or_error before own None = Err fault.BadRun
junit_or_error before own (Some run') = Ok (command.ReportJunit (report_options before own run'))

-- `report_in before own`: the command `report`, or the error of its options: `BadKind` for a wrong
-- results filter, and otherwise `BadRun` for a wrong run number. `before` are the options before
-- the command's name, and `own` are the options and arguments after it, with their values.
abbrev pub report_in : List Row → List Row → Result Command CommandFault
report_in before own = report_or_error before own (kinds_option (first_of (codes "kinds") own)) (run_option (first_of (codes "run") own))

-- `junit_in before own`: the command `report-junit`, or the error `BadRun` for a wrong run number.
-- `before` are the options before the command's name, and `own` are the options and arguments after
-- it, with their values.
abbrev pub junit_in : List Row → List Row → Result Command CommandFault
junit_in before own = junit_or_error before own (run_option (first_of (codes "run") own))

-- `command_named before name own`: the command with the name `name`, or the error of its options.
-- If no command has the name, the error is `Usage`. `before` are the options before the name, and
-- `own` are the options and arguments after it, with their values.
abbrev pub command_named : List Row → Text → List Row → Result Command CommandFault
command_named before name own =
    if bytes_eq name (codes "list") then Ok (command.List (case_options_in before own))
    else if bytes_eq name (codes "test") then Ok (command.Test (case_options_in before own) (results_path own))
    else if bytes_eq name (codes "debug") then Ok (command.Debug (case_options_in before own))
    else if bytes_eq name (codes "report") then report_in before own
    else if bytes_eq name (codes "report-junit") then junit_in before own
    else Err (fault.Usage [])

-- `command_in before entered`: the command on a command line, or the error of its options. `before`
-- are the options before the command's name, with their values. `entered` has that name and the
-- options and arguments after it. If `entered` is `None`, the error is `Usage`.
abbrev pub command_in : List Row → Option (Text × List Row) → Result Command CommandFault
command_in before None = Err (fault.Usage [])
command_in before (Some entered) = command_named before entered.0 entered.1

-- ---- results

-- `ParsesCommand words result`: `result` is the result of parsing the arguments `words`. If `clap`
-- rejects the arguments, `result` is `Usage`. Otherwise, `result` is the command with the values
-- that `clap` finds, or the error of this command. `result` may also be `NoMemory`.
abbrev pub ParsesCommand : List Text → Result Command CommandFault → Type 0
ParsesCommand words (Err (fault.NoMemory shortage)) = ⊤
ParsesCommand words (Err (fault.Usage message)) = fault_of kyua_app words ≢ []
ParsesCommand words result =
    (fault_of kyua_app words ≡ []) × (result ≡ command_in (matches_of kyua_app words) (subcommand_of kyua_app words))

-- `IsArgsFault out_of_memory fault`: `fault`, an error of a command line, is `Usage` or `NoMemory`.
-- It is `NoMemory` if `out_of_memory`, the condition that memory ran out, is true.
abbrev pub IsArgsFault : Type 0 → CommandFault → Type 0
IsArgsFault out_of_memory (fault.NoMemory shortage) = ⊤
IsArgsFault out_of_memory (fault.Usage message) = out_of_memory → ⊥
IsArgsFault out_of_memory other = ⊥
