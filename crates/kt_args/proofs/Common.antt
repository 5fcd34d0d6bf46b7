-- Exports the names that most proofs of this crate cite. Declares nothing.
pub use Rattle.std.proofs.lemmas.Iterator.{YieldsList-from_slice, items_from_collect}
pub use Rattle.std.specs.List.{list_all}
unfoldable pub use Rattle.std.specs.Str.{chars}
pub use Rattle.clap.proofs.WalkLemmas.{first_value-rows, raw_values-rows}
pub use Rattle.clap.specs.Simple.{app_of_fields, argument_words, entered, label_of, names_of, on_top, rows_at}
pub use Rattle.clap.specs.Words.{AddsArg, AddsSubcommand, App, HasKind, HasMatchesOf, IsAmong, IsParsedFrom, Row, Rule, Shape, Text, all_of, app_of, built, fault_of, first_of, found_of, is_simple, is_simple_and_free, kind_of, matches_of, new_app, rows_of, rule_of, subcommand_of, subcommand_rows, subcommand_rows_of, with_rule, with_subcommand}
pub use Rattle.clap.specs.declared.builder.command.Command.TheViews.{out-Command}
pub use Rattle.clap.specs.declared.parser.matches.ArgMatches.TheViews.{out-ArgMatches, out-SubCommand}
pub use Rattle.kt_base.specs.declared.verdict.Kind.{Kind}
pub use Rattle.kt_args.specs.Grammar.{bare_app, kyua_app}
pub use Rattle.kt_args.specs.Reading.{ParsesCommand, IsArgsFault, command_in, junit_in, junit_or_error, kinds_option, case_options_in, report_in, report_or_error, results_path, run_option, option_texts}
pub use Rattle.kt_args.specs.Words.{comma_elements, kind_of_element, kinds_of_elements, with_kind}
