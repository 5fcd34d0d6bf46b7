-- Exports the names that most proofs of this crate cite. Declares nothing.
pub use Rattle.std.proofs.lemmas.Grind.{common_steps}
pub use Rattle.std.proofs.lemmas.Result.{err_from_is_err_and}
unfoldable pub use Rattle.std.specs.Str.{chars}
pub use Rattle.kt_base.proofs.Chains.{chain-append}
pub use Rattle.kt_base.proofs.Showing.{shows_as, utf8-append, utf8_five}
pub use Rattle.kt_base.specs.Chains.{Chain}
pub use Rattle.kt_base.specs.Texts.{is_empty}
pub use Rattle.kt_base.specs.Utf8.{utf8}
pub use Rattle.kt_base.specs.declared.child.Interface.TheVariants.{Atf, Plain, Tap}
pub use Rattle.kt_config.specs.FaultMessages.{config_message}
pub use Rattle.kt_plan.specs.Types.{Candidate, CaseOptions, CaseSelection, CommandSelection, Definition, Filter, FilterFault, FilterRule, Host, Job, Need, Program, Settings, SelectionError, SuiteFault, Values}
pub use Rattle.kt_config.specs.declared.fault.ConfigFault.{ConfigFault}
pub use Rattle.kt_metadata.specs.Requirements.{RecordsAsFound, is_found, is_same_need, required_objects}
pub use Rattle.kt_metadata.specs.declared.meta.Meta.{Meta}
pub use Rattle.kt_sched.specs.Children.{Child, IsIdle}
pub use Rattle.kt_sched.specs.Plan.{IsStartableJob, IsPlan}
pub use Rattle.kt_suite.proofs.FaultMessages.{utf8-script}
pub use Rattle.kt_suite.specs.Answers.{LeadsByCalls, Asked}
pub use Rattle.kt_suite.specs.Matching.{MayMatch}
pub use Rattle.kt_suite.specs.Paths.{name_in}
pub use Rattle.kt_suite.specs.Selecting.{is_selected, item_limit, passing_positions}
pub use Rattle.kt_suite.specs.declared.cause.SuiteCause.TheVariants.{NoMemory, Unreadable}
unfoldable pub use lib.Utf8.{encode}
pub use Rattle.kt_plan.specs.Collecting.{LoadsAndSelects, IsLoadAndSelectPrefix, IsSelectable, ListsAllCases, IsAllListsPrefix, ListsProgramCases, asks, candidates_of, chosen, selection_of, item_of, listed, listing, loading, no_further, offering, one_and, passes, selected_cases, single, too_many, unlisted, unloaded, variables_for}
pub use Rattle.kt_plan.specs.Configuring.{Configures, ParsesFilters, IsConfiguration, ReadsConfig, IsReadPrefix, ReadsSettings, after_file, before_file, values_after, clash, defined, results_of_each, failed, filter_of, filters_of, cons_result, is_case_missing, missing, none, read, refused, right, seen, settled, stopped, unconfigured, unfiltered, unnamed, unparsed, unread, argument_definition, argument_definitions}
pub use Rattle.kt_plan.specs.Inner.Collecting.{HasTreeSelection, selected_indexes}
pub use Rattle.kt_plan.specs.Inner.Configuring.{FindsOverlap, HasConfiguration, HasValuesOf, AppendsDefinitions, AppendsDefinition, apart, filter_index_of, shared, config_read_error}
pub use Rattle.kt_plan.specs.Inner.Planning.{RecordsFound}
pub use Rattle.kt_plan.specs.Listings.{IsLoadPrefix, Loads, before_tree, by_tree, named, unfinished}
pub use Rattle.kt_plan.specs.Planning.{ArePlanned, IsJobOf, ChecksNeeds, ProbesHost, IsProbePrefix, asked, finds, is_atf, candidate_meta, needs_of_kinds, case_needs, needs_of_kind, needs_of_cases, no_job, nothing, planned}
pub use Rattle.kt_plan.specs.WorldCalls.{IsCallPrefix, WorldLeads, host_calls, tree_calls}
pub use Rattle.kt_plan.specs.SelectionMessages.{quoted_message}
pub use Rattle.kt_plan.specs.Stops.{HoldsOrNoMemory, IsNoMemoryError, finished, memory_ran_out}
pub use Rattle.kt_plan.specs.Reply.{Finds, HasDisk, HasMemory, IsRoot, Lists, ReadConfig, Reply}
