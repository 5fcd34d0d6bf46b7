-- Exports the definitions that the clauses of this crate cite. Declares nothing.
pub use Rattle.std.specs.List.{Contains}
pub use Rattle.kt_base.specs.Moments.{IsMoment}
pub use Rattle.kt_base.specs.declared.child.Role.{Role}
pub use Rattle.kt_config.specs.Names.{definition_named}
pub use Rattle.kt_config.specs.Values.{Values}
pub use Rattle.kt_metadata.specs.Requirements.{first_reason, requirement_reason_texts}
pub use Rattle.kt_sched.specs.Children.{IsIdle}
pub use Rattle.kt_sched.specs.Plan.{IsPlan}
pub use Rattle.kt_suite.specs.Answers.{LeadsByCalls, Asked}
pub use Rattle.kt_suite.specs.Faults.{IsNoMemory, no_memory}
pub use Rattle.kt_suite.specs.Inner.Steps.{IsFaultAt}
pub use Rattle.kt_suite.specs.Matching.{MayMatch}
pub use Rattle.kt_suite.specs.Registered.{program_limit}
pub use Rattle.kt_suite.specs.Selecting.{item_limit}
pub use Rattle.kt_suite.specs.declared.filter.Filter.{Filter}
pub use Rattle.kt_plan.specs.Collecting.{IsSelectable, ListsAllCases, IsAllListsPrefix, ListsProgramCases, candidates_of, selection_of, item_of, selected_cases, variables_for}
pub use Rattle.kt_plan.specs.Configuring.{Configures, ParsesFilters, IsConfiguration, IsReadPrefix, ReadsConfig, ReadsSettings, filter_of, filters_of, is_case_missing, names_one_case, with_selection_error, argument_definition, argument_definitions}
pub use Rattle.kt_plan.specs.Inner.Collecting.{HasTreeSelection, selected_indexes}
pub use Rattle.kt_plan.specs.Inner.Configuring.{FindsOverlap, HasConfiguration, AppendsDefinitions, AppendsDefinition, config_or_error, filter_index_of, config_read_error}
pub use Rattle.kt_plan.specs.Inner.Planning.{RecordsFound}
pub use Rattle.kt_plan.specs.Listings.{IsLoadPrefix, Loads}
pub use Rattle.kt_plan.specs.Planning.{ArePlanned, DecidesVerdict, IsJobOf, ChecksNeeds, ProbesHost, IsProbePrefix, is_atf, candidate_meta, needs_of_kinds, case_needs, needs_of_kind, needs_of_cases}
pub use Rattle.kt_plan.specs.WorldCalls.{IsCallPrefix, WorldLeads}
pub use Rattle.kt_plan.specs.Selecting.{IsSelectionPrefix, Selects}
pub use Rattle.kt_plan.specs.Stops.{HoldsOrNoMemory, IsNoMemoryError}
pub use Rattle.kt_plan.specs.Reply.{Finds, HasDisk, HasMemory, IsRoot, Lists, Now, ReadConfig, Reply}
pub use Rattle.kt_plan.specs.declared.cases.Candidate.{Candidate}
