-- Exports the definitions that the clauses of this crate cite. Declares nothing.
pub use Rattle.std.specs.IoError.{error_kind}
pub use Rattle.std.specs.Option.{option_copied}
pub use Rattle.std.specs.String.{string_bytes}
pub use Rattle.std.specs.Vec.Iter.{into_iter_items}
pub use Rattle.std.specs.declared.io.ErrorKind.TheVariants.{OutOfMemory}
pub use Rattle.clap.specs.Words.{App, Rule, all_of, app_of, first_of, found_of, new_app, rows_of, rule_of, subcommand_rows_of, with_rule, with_subcommand}
pub use Rattle.kt_base.specs.Limits.{greatest_run_number}
pub use Rattle.kt_args.specs.Commands.{HasValidRun, adds_run, case_options_of, results_file_of}
pub use Rattle.kt_args.specs.Grammar.{bare_app, case_rule, config_rule, debug_app, filters_rule, junit_app, kinds_rule, kyua_app, kyuafile_rule, list_app, option_rule, report_app, results_rule, run_rule, test_app, variable_rule, verbose_rule, work_rule}
pub use Rattle.kt_args.specs.Inner.Reading.{IsResultOrNoMemory, ParsesKinds, ParsesRun}
pub use Rattle.kt_args.specs.Reading.{ParsesCommand, IsArgsFault, command_in, command_named, is_true, junit_in, kinds_option, case_options_in, report_in, report_options, results_path, run_option, option_text, option_text_or_default, option_texts}
pub use Rattle.kt_args.specs.Words.{comma_elements, default_kinds, non_zero, is_number, kind_of_element, kinds_of_elements, run_number_of}
