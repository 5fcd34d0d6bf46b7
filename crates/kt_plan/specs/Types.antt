-- Exports the types that the definitions of this crate name. Declares nothing.
pub use Rattle.kt_base.specs.declared.child.Interface.TheVariants.{Atf}
pub use Rattle.kt_base.specs.declared.no_memory.NoMemory.{NoMemory}
pub use Rattle.kt_base.specs.declared.variable.Variable.{Variable}
pub use Rattle.kt_config.specs.Values.{Values}
pub use Rattle.kt_config.specs.declared.meaning.Definition.{Definition}
pub use Rattle.kt_metadata.specs.declared.host.Host.{Host}
pub use Rattle.kt_metadata.specs.declared.host.Need.{Need}
pub use Rattle.kt_atflist.specs.declared.listing.CaseDef.{CaseDef}
pub use Rattle.kt_atflist.specs.declared.listing.Listing.{Listing}
pub use Rattle.kt_suite.specs.Answers.{Asked}
pub use Rattle.kt_suite.specs.declared.fault.SuiteFault.{SuiteFault}
pub use Rattle.kt_suite.specs.declared.filter.Filter.{Filter}
pub use Rattle.kt_suite.specs.declared.filter.FilterFault.{FilterFault}
pub use Rattle.kt_suite.specs.declared.program.Program.{Program}
pub use Rattle.kt_suite.specs.declared.selecting.Item.{Item}
pub use Rattle.kt_suite.specs.declared.tree.ReadFault.{ReadFault}
pub use Rattle.kt_suite.specs.declared.tree.ReadFault.TheVariants.{Failed, Memory, Missing}
pub use Rattle.kt_sched.specs.declared.job.Job.{Job}
pub use Rattle.kt_args.specs.declared.filter_rule.FilterRule.{FilterRule}
pub use Rattle.kt_args.specs.declared.options.CaseOptions.{CaseOptions}
pub use Rattle.kt_plan.specs.declared.cases.Candidate.{Candidate}
pub use Rattle.kt_plan.specs.declared.cases.CaseSelection.{CaseSelection}
pub use Rattle.kt_plan.specs.declared.cases.CommandSelection.{CommandSelection}
pub use Rattle.kt_plan.specs.declared.options.Settings.{Settings}
pub use Rattle.kt_plan.specs.declared.selection_error.SelectionError.{SelectionError}
