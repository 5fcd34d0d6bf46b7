-- Re-exports the names that most proofs of this crate cite. Declares nothing.
pub use Rattle.std.proofs.lemmas.Bool.Decides.{nat_tests}
pub use Rattle.std.proofs.lemmas.List.{set-get_or}
pub use Rattle.std.specs.List.{find}
pub use Rattle.std.specs.Option.{option_copied, option_map}
pub use Rattle.kt_base.specs.declared.child.Role.{Role}
pub use Rattle.kt_base.specs.declared.entry.Entry.{Entry}
pub use Rattle.kt_base.specs.declared.entry.Run.{Run}
pub use Rattle.kt_sched.specs.Plan.{IsStartableJob, IsPlan}
pub use Rattle.kt_sched.specs.declared.job.Job.{Job}
pub use Rattle.kt_store.specs.Heads.{entry_at, head_of, outline_entry, outputs_of}
pub use Rattle.kt_store.specs.Runs.{AreNumbered, finish, finish_fault, finish_refusal_of, has_position, insert_by_position, put_fault, put_refusal_of, run_at, with_entry}
pub use Rattle.kt_store.specs.Serving.{Agrees, Serves, runs_after}
pub use Rattle.kt_store.specs.StoreCalls.{Began, Finished, Head, Outputs, Put, StoreCall}
pub use Rattle.kt_store.specs.declared.result_store.CaseOutputs.{CaseOutputs}
pub use Rattle.kt_store.specs.declared.result_store.RunHead.{RunHead}
pub use Rattle.kt_store.specs.declared.store_fault.StoreFault.{StoreFault}
pub use Rattle.kt_store.specs.declared.store_fault.StoreFault.TheVariants.{NoRun}
pub use Rattle.kt_doubles.specs.Children.{is_cleanup_pending, running_child_at}
pub use Rattle.kt_doubles.specs.MemoryRuns.{FindsRunIndex, LeavesInMemory, ServesInMemory, memory_runs, insert_index}
