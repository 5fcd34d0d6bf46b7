-- Re-exports the names that the clauses of `MemRuns` cite. Declares nothing.
pub use Rattle.std.specs.List.{find}
pub use Rattle.std.specs.Option.{option_copied}
pub use Rattle.kt_store.specs.Ask.{IsDatabaseFault}
pub use Rattle.kt_store.specs.Heads.{IsNumbered, head_of, outline_entry, outputs_of}
pub use Rattle.kt_store.specs.Runs.{AreNumbered, AreOrdered, has_position, insert_by_position}
pub use Rattle.kt_store.specs.StoreCalls.{Began, Finished, Outline, Outputs, Pairs, Put, map_success}
pub use Rattle.kt_doubles.specs.MemoryRuns.{FindsRunIndex, ServesInMemory, insert_index}
