-- Re-exports the names that most proofs of this crate cite. Declares nothing.
pub use Rattle.std.proofs.Common.{Bool, Equal, Err, Greater, IfErr, IfOk, IfSome, IsPermutation, IsSome, IsTrue, Less, List, None, Ok, OnOk, Option, Ordering, Result, Some, [], ap, append-nil, ap₂, arith, codes, cond, drop, false, filter, get_or, inl, inr, is_err, length, length-append, map, nat_lt, ne_eqb, not, option_map, pos, refl, reverse, rules, slice_get, subst, subst₂, suc, sym, take, true, true≢false, w64, zero, ℕ, ℤ, ◌%◌, ◌&&◌, ◌++◌, ◌+◌, ◌-◌, ◌<◌, ◌==◌, ◌∙◌, ◌∷◌, ◌≡◌, ◌≢◌, ◌≤◌, ◌⊎◌}
pub use Rattle.std.proofs.Math.Logic.{∥∥₁_elim, ∥∥₁_map}
pub use Rattle.std.proofs.lemmas.Bool.{and_parts, cases_eq, cond-true, eq-eqb, not-true, or_right}
pub use Rattle.std.proofs.lemmas.Bool.Decides.{nat_tests}
pub use Rattle.std.proofs.lemmas.Int.{to_z_pos}
pub use Rattle.std.proofs.lemmas.List.{append_assoc, length-map, map-append, map-id, reverse-append, reverse-reverse}
pub use Rattle.std.proofs.lemmas.List.Elements.{filter_passes, recursion_from_All}
pub use Rattle.std.proofs.lemmas.List.Sorted.{IsPermutation-map, IsPermutation-sym, IsPermutation-trans}
pub use Rattle.std.proofs.lemmas.Option.{none-some, same_Some, slice_get_read}
pub use Rattle.std.proofs.lemmas.Result.{IfErr-weaker, IfOk-weaker, on_ok_weaker}
pub use Rattle.std.specs.Ordering.{is_eq, is_gt, is_lt, ordering_then}
pub use Rattle.sqlite.proofs.Callers.{one_step}
pub use Rattle.sqlite.proofs.FileLemmas.{probe_size, same_image}
pub use Rattle.sqlite.proofs.OpenLemmas.{meets, pool_files}
pub use Rattle.sqlite.proofs.StateLemmas.{clean_if_open}
pub use Rattle.sqlite.specs.Does.{Tally}
pub use Rattle.sqlite.specs.Edit.{edit_of}
pub use Rattle.sqlite.specs.Files.{image_of, over_files}
pub use Rattle.sqlite.specs.Opening.{HoldsAt, HoldsIn, layout_at, layout_of, unrooted}
pub use Rattle.sqlite.specs.Rowids.TheVariants.{Chosen, Given}
pub use Rattle.sqlite.specs.Rows.{last_id}
pub use Rattle.sqlite.specs.Schema.{Schema}
pub use Rattle.sqlite.specs.Table.{Table}
pub use Rattle.sqlite.specs.declared.types.Value.{Value}
pub use Rattle.sqlite_catalog.proofs.ReadLemmas.{lists_once}
pub use Rattle.sqlite_catalog.specs.Listing.{IsSound, Lists}
pub use Rattle.sqlite_exec.specs.Loops.{left_of}
pub use Rattle.sqlite_keyed.proofs.ListLemmas.{IsPermutation-filter, all-append, all-filter, all-map, all_map, all_weaker, ascending-filter, ascending-map, ascending_from_map, ascending_weaker, filter-map, filter_all, filter_none, map-map, map_same}
pub use Rattle.sqlite_keyed.proofs.SortLemmas.{sorted_unique}
pub use Rattle.sqlite_pool.proofs.ResealLemmas.{adopts_of, plain_adopts}
pub use Rattle.sqlite_pool.proofs.StateLemmas.{clean_is, file_alone, may_leave_is, settled, size_is_allowed}
pub use Rattle.sqlite_pool.specs.File.{in_use, version_in}
pub use Rattle.sqlite_pool.specs.Stored.{reserved}
pub use Rattle.sqlite_pool.specs.StoredLaws.{recovers_once}
pub use Rattle.sqlite_rules.proofs.ListLemmas.{all_from, all_more}
pub use Rattle.sqlite_rules.proofs.LogLemmas.{nothing_logged, still_set_up}
pub use Rattle.sqlite_rules.proofs.TableLemmas.{int_is}
pub use Rattle.sqlite_rules.specs.Action.{works}
pub use Rattle.sqlite_rules.specs.Calls.{ids_of}
pub use Rattle.sqlite_rules.specs.Cast.{cast_row}
pub use Rattle.sqlite_rules.specs.Edit.{id_in}
pub use Rattle.sqlite_schema.specs.Catalog.{IsCatalogOf}
pub use Rattle.sqlite_schema.specs.Names.{column_named}
pub use Rattle.sqlite_schema.specs.Rules.{Fits, Refers, index_reals, table_reals}
pub use Rattle.sqlite_schema.specs.declared.schema.Constraint.TheVariants.{ForeignKey}
pub use Rattle.sqlite_schema.specs.declared.schema.Keys.TheVariants.{Enforced}
pub use Rattle.sqlite_sql.specs.Catalog.{IsIndexOf, entry_of}
pub use Rattle.sqlite_store.specs.Db.{IsFile, rows_at}
pub use Rattle.sqlite_store.specs.Joined.{joined}
pub use Rattle.sqlite_store.specs.Laws.{settled_at, shut_if_dirty_at}
pub use Rattle.sqlite_store.specs.Listing.{all_trees, file_trees, listed_from}
pub use Rattle.sqlite_store.specs.Saved.{kept_schema}
pub use Rattle.sqlite_store.specs.Unopened.{image, state_of, wanted_by}
pub use Rattle.sqlite_trees.proofs.Doubt.{clean_of, no_doubt}
pub use Rattle.sqlite_trees.proofs.ListLemmas.{all-permutation, pull_back}
pub use Rattle.sqlite_trees.specs.Objects.{IsListed, catalog_tree, number_in, with_version}
pub use Rattle.sqlite_trees.specs.Props.{Trees-set}
pub use Rattle.sqlite_trees.specs.Tree.{IsTable, no_trees, order_of, sought, up_to_key}
pub use Rattle.sqlite_trees.specs.View.{IsOrdered, is_int, with_cursor}
pub use Rattle.sqlite_trees.specs.declared.store.Direction.TheVariants.{Backward}
pub use Rattle.sqlite_trees.specs.declared.store.Shape.{Shape}
pub use Rattle.sqlite_value.proofs.OrderLemmas.{then-Equal, value_cmp_total}
pub use Rattle.sqlite_value.specs.Keys.{entry_cmp, plain, prefix_cmp}
unfoldable pub use Rattle.sqlite_value.specs.Keys.{first_key}
unfoldable pub use Rattle.sqlite_value.specs.Order.{value_cmp}
pub use Rattle.sqlite_wal.proofs.StateLemmas.{open_from}
pub use Rattle.sqlite_wal.specs.Files.{outcomes, seen_image}
pub use Rattle.sqlite_wal.specs.Reads.{AreClean, are_clean}
pub use Rattle.sqlite_wal.specs.Recovery.{AreWhole, IsIgnored, only_page}
pub use Rattle.kt_store.specs.Attaching.{Schema2}
pub use Rattle.kt_store.specs.Files.{OpensAndCloses, ClosesCleanly, FailsToClose, HasTrees, StaysNumbered}
pub use Rattle.kt_store.specs.Runs.{IsValidRun, HasSchemaNumber, IsSchema2Database, entry_rows, prop_rows, finish, new_run, pair_rows, with_entry}
pub use Rattle.kt_store.specs.Serving.{Agrees, SurvivesCrash, runs_after}
pub use Rattle.kt_store.specs.StoreCalls.{StoreCall}
pub use Rattle.kt_store.specs.TrustedContents.{IsTrustedImage, schema_2_objects}
pub use Rattle.kt_store.specs.Tables.{entries_table, index_of, meta_table, props_table, runs_table}
pub use Rattle.kt_store.specs.Seeks.{OpensRuns}
pub use Rattle.kt_store.specs.Heads.{entry_at, pairs_of}
pub use Rattle.kt_store.specs.Inner.Heads.{entry_columns, head_columns, pair_columns}
pub use Rattle.kt_store.specs.Types.{AllByRecursion, Database, Entry, FileStore, Ghosts, HasCleanDisk, Held, HoldsDatabase, Image, Int, IsAscending, IsClean, IsIndex, IsLive, IsShaped, Null, PageMap, Recovers, Row, Run, Trees, Variable, View, column, file_state, from_key, has_rowid, rowid, state, stored_size, view}
pub use Rattle.kt_store.specs.declared.result_store.CaseOutputs.{CaseOutputs}
pub use Rattle.kt_store.specs.declared.result_store.RunHead.{RunHead}
pub use Rattle.kt_store.specs.declared.store_fault.StoreFault.{StoreFault}
pub use Rattle.kt_store.specs.declared.store_fault.StoreFault.TheVariants.{NoRun}
pub use Rattle.kt_dbfile.specs.Inner.Cursors.{IsUniqueRow, OnlyMovesCursors, IndexesRows, SelectsColumns, has_prefix}
pub use Rattle.kt_dbfile.specs.Inner.Edits.{WritesEntryRows, IsSettledStore, new_run_row}
pub use Rattle.kt_dbfile.specs.Inner.Known.{HasRuns, spec_over_trees, read_only_spec, runs_file_spec}
pub use Rattle.kt_dbfile.specs.Inner.NewFiles.{HoldsEmpty, IsNewNameOf}
pub use Rattle.kt_dbfile.specs.Common.{AreNamed, AreNumbered, AreOrdered, AreValidRuns, AreWide, Began, IsValidWithEntry, CountsUnderKey, EndsTransaction, Finished, HasCommitted, Head, KeepsLastCommit, HoldsRuns, IsComplete, IsEncodableProperty, IsDatabaseFault, IsAttached, IsAttachedFiles, IsSchema2Of, IsSchema2OfOne, ListsRuns, OnlyReadsStore, ObeysSchema, Outline, Outputs, Pairs, Put, PutsRows, Serves, SelectsUnderKey, StandsFor, WritesRows, finished_run_row, entries_of, entry_row, has_position, head_of, selected_columns, outline_entry, outputs_of, pair_row, pair_rows_from, run_at, run_row, schema_2, map_success, row_without_rowid}
pub use Rattle.kt_dbfile.specs.Inner.Opening.{OpensOver}
