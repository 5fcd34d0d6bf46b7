-- Re-exports of the names that most proofs of this crate cite. Declares nothing.
pub use Rattle.std.proofs.Common.{Bool, Equal, Err, Greater, IfErr, IfOk, IfSome, IsErrAnd, IsPermutation, IsTrue, Less, List, MatchBool, None, Ok, OnErr, OnOk, Option, Ordering, Result, SFits, Some, [], ap, append-nil, ap₂, arith, codes, cond, drop, drop-cons, false, filter, fold, get_or, if◌then◌else◌, inl, inr, is_some, length, length-append, map, nat_le, nat_lt, negsuc, not, option_map, pos, refl, rules, slice_get, subst, subst₂, suc, sym, take, true, unsigned_abs, unwrap_or, w64, zero, ℕ, ℤ, ◌&&◌, ◌++◌, ◌+ℤ◌, ◌+◌, ◌/◌, ◌<◌, ◌==◌, ◌^◌, ◌||◌, ◌∙◌, ◌∷◌, ◌≡◌, ◌≢◌, ◌≤◌, ◌⊎◌}
pub use Rattle.std.proofs.lemmas.Bool.{and_parts, both_ways, cases_Bool, cases_lt, not-true, or_left, or_parts, or_right}
pub use Rattle.std.proofs.lemmas.Bool.Decides.{nat_tests}
pub use Rattle.std.proofs.lemmas.Int.{ints, to_z-of_z}
pub use Rattle.std.proofs.lemmas.List.{append_assoc, drop_more, length-map, map-append, map-id, nil_from_length, take_all}
pub use Rattle.std.proofs.lemmas.List.Concat.{flat_map_single}
pub use Rattle.std.proofs.lemmas.List.Elements.{filter-append}
pub use Rattle.std.proofs.lemmas.List.Sorted.{IsPermutation-append_comm, IsPermutation-append_left, IsPermutation-append_right, IsPermutation-cons, IsPermutation-map, IsPermutation-middle, IsPermutation-refl, IsPermutation-sym, IsPermutation-trans, length_permutation}
pub use Rattle.std.proofs.lemmas.Option.{slice_get-map, slice_get_past, slice_get_within}
pub use Rattle.std.proofs.lemmas.Result.{IfErr-weaker, IfOk-weaker, on_err_weaker, on_ok_weaker}
pub use Rattle.std.specs.List.{flat_map, list_all}
pub use Rattle.std.specs.Option.{option_copied, option_to_list}
pub use Rattle.std.specs.Ordering.{int_cmp, is_eq, is_lt, match_ordering}
pub use Rattle.std.specs.Prelude.{⊤}
pub use Rattle.sqlite.proofs.Callers.{IsPlain, command_of, never_commits, one_permutation, one_step, reads_as, runs_as, statement_of, survives_begin, unchanged_then}
pub use Rattle.sqlite.proofs.InsideLemmas.{fails_whole, inside_keeps, keeps_then}
pub use Rattle.sqlite.proofs.StateLemmas.{survives_then, survives_weaker}
pub use Rattle.sqlite.specs.Cast.{cast}
pub use Rattle.sqlite.specs.Collation.TheVariants.{Binary}
pub use Rattle.sqlite.specs.Command.{Command}
pub use Rattle.sqlite.specs.Command.TheVariants.{Commit, CreateTable, Insert, Release, Select, Update}
pub use Rattle.sqlite.specs.Does.{AtPlace, Concludes, Does, OnRows, Tally, lacks_sequence}
pub use Rattle.sqlite.specs.Edit.{Edit, edit_of}
pub use Rattle.sqlite.specs.Effect.{Answers, value_rows}
pub use Rattle.sqlite.specs.Kind.TheVariants.{Integer}
pub use Rattle.sqlite.specs.Listing.{reads_listing}
unfoldable pub use Rattle.sqlite.specs.Listing.{understood}
pub use Rattle.sqlite.specs.Ops.{from_truth, is_null, is_true}
unfoldable pub use Rattle.sqlite.specs.Ops.{binary, unary}
pub use Rattle.sqlite.specs.Program.{overlay}
pub use Rattle.sqlite.specs.Query.{IsAnswerAs, IsSureAnswer, Output, Query, end, inner, matches_as, output, output_cmp}
pub use Rattle.sqlite.specs.Rowids.TheVariants.{Above, Chosen, Given}
pub use Rattle.sqlite.specs.Rows.{Counts, CountsIn, Gives, Inserts, Task, Updates, Written, count_of, last_id, rowids_for, sequence, stamped}
pub use Rattle.sqlite.specs.Schema.{Schema}
pub use Rattle.sqlite.specs.Source.TheVariants.{Values}
pub use Rattle.sqlite.specs.State.{Fails, FailsToShow, IsNewestNamed, Runs, RunsCommand, ShowsRows, Writes, begins_at, mode_of, names_in}
unfoldable pub use Rattle.sqlite.specs.State.{CommitsBy, FailsToQuery, IsNotRun, Shown}
pub use Rattle.sqlite.specs.Steps.{FailsToCommit, Outlines}
pub use Rattle.sqlite.specs.Table.{Table}
pub use Rattle.sqlite.specs.Term.{Term, col, eval, eval_all, holds, lit, op2}
pub use Rattle.sqlite.specs.declared.error.Error.{Error}
pub use Rattle.sqlite.specs.declared.run.Mode.{Mode}
pub use Rattle.sqlite.specs.declared.types.Value.{Value}
pub use Rattle.sqlite_keyed.proofs.ListLemmas.{IsPermutation-filter, all-append, all-map, all-slice_get, all_weaker, ascending-filter, ascending-map, ascending_weaker, filter-map, filter_all, filter_none, filter_same, flat_map_same_on, map-map, map_same, slice_get-filter}
pub use Rattle.sqlite_keyed.proofs.SortLemmas.{sorted_unique}
pub use Rattle.sqlite_resolve.specs.declared.compiled.Compiled.{Compiled}
pub use Rattle.sqlite_rules.proofs.ListLemmas.{all_from}
pub use Rattle.sqlite_rules.proofs.TableLemmas.{int_is}
pub use Rattle.sqlite_rules.specs.Action.{works}
pub use Rattle.sqlite_rules.specs.Calls.{ids_of}
pub use Rattle.sqlite_rules.specs.Cast.{cast_row}
pub use Rattle.sqlite_rules.specs.Edit.{Applies, are_fresh, have_rowids, id_in, is_taken, next_rowid, numbered, put_all, taken_by}
pub use Rattle.sqlite_schema.specs.Rules.{agree, clashes, differ, passes}
pub use Rattle.sqlite_schema.specs.declared.program.Program.{Program}
pub use Rattle.sqlite_schema.specs.declared.schema.Constraint.TheVariants.{Unique}
pub use Rattle.sqlite_schema.specs.declared.schema.Keys.TheVariants.{Enforced}
pub use Rattle.sqlite_sql.specs.declared.ops.BinaryOp.TheVariants.{Compare}
pub use Rattle.sqlite_sql.specs.declared.ops.CompareOp.TheVariants.{Eq}
unfoldable pub use Rattle.sqlite_tied.specs.Compute.{everything}
pub use Rattle.sqlite_trees.specs.Tree.{put_row, without_rowid}
pub use Rattle.sqlite_trees.specs.View.{is_int}
pub use Rattle.sqlite_value.proofs.OrderLemmas.{value_cmp-Int}
pub use Rattle.sqlite_value.specs.Keys.{ascending, plain}
unfoldable pub use Rattle.sqlite_value.specs.Keys.{first_key}
unfoldable pub use Rattle.sqlite_value.specs.Order.{value_cmp}
pub use Rattle.kt_store.specs.Attaching.{Schema2, Numbered, InitialDatabase}
pub use Rattle.kt_store.specs.Inner.Runs.{HasEncodableTexts, finished_run_row}
pub use Rattle.kt_store.specs.Inner.Transactions.{IsUndone, ExecutesInOrder, begun, creation_statements, insert_prop_sql, migration_statements}
pub use Rattle.kt_store.specs.Runs.{HaveNoPairs, IsValidRun, IsAnySchemaOf, IsSchema1Of, IsSchema1Database, IsSchema2Database, entry_rows, finish_refusal_of, insert_by_position, prop_rows, put_refusal_of, AreNumbered, AreOrdered, entry_row, pair_row, pair_rows, pair_rows_from, run_row}
pub use Rattle.kt_store.specs.Serving.{Agrees, SurvivesCrash, runs_after}
pub use Rattle.kt_store.specs.Stands.{HasTables, IsSettledWhileOpen, HasNoTables, IsSettled, IsSettledWithRuns, ListsSchemaNumber, RepresentsInSchema1}
pub use Rattle.kt_store.specs.StoreCalls.{StoreCall}
pub use Rattle.kt_store.specs.Tables.{insert_run_sql, schema_with_meta, create_entries_sql, create_meta_sql, create_props_sql, create_runs_sql, entries, entries_table, finish_run_sql, index_of, insert_schema_sql, meta, meta_table, select_schema_sql, no_schema, props, props_table, insert_entry_sql, update_schema_sql, select_run_sql, runs, runs_table, schema_1, select_entry_sql}
pub use Rattle.kt_store.specs.Common.{AreValidRuns, AreWide, RunsQuery, ReadsSchemaNumber, Began, Blank, IsValidWithEntry, Changes, Commits, CommitsNothingYet, CommitsNothing, RunsStatement, Finished, HasColumns, IsNotBlank, Head, HasNoReasonIfPassed, IsComplete, IsValidEntry, IsNoMemory, IsNumbered, Describes, IsSchema2Statement, IsEncodableProperty, IsDatabaseFault, IsPreparable, IsSchema2Of, IsSchema2OfOne, KeepsRuns, Leaves, OnlyReadsRuns, MayChange, MayCommit, StatementMayCommit, QueryMayCommit, Schema1, Put, AttachFails, IsUnchangedOrRolledBack, Reads, ExecutesOne, StoresSchemaNumber, Serves, QueriesRuns, StandsFor, Statement, AttachSucceeds, RollsBack, bound, entries_of, select_entries_sql, entry_at, entry_columns, entry_statements, finish, finish_fault, finish_refusal, flag, has_position, head_at, head_columns, head_of, kind_code, new_run, outline_entry, pair_columns, pair_statement, pair_statements, pairs_of, select_props_sql, plain_statements, put_fault, put_refusal, results_spec, run_at, select_runs_sql, schema_2, full_entry_columns, with_entry}
pub use Rattle.kt_store.specs.Types.{AllByRecursion, BadPosition, CommitsShowing, Database, Entry, Executes, ExecutesInside, Ghosts, HasCleanDisk, Held, Incomplete, Int, IsAscending, IsDatabase, IsLive, IsRolledBack, IsUnchanged, KeepsCommit, NoMemory, Null, RepeatedPosition, Row, Run, RunClosed, RunHead, State, StoreFault, Survives, Text, Trees, Variable, column, find, has_rowid, greatest_run_number, rowid, state}
