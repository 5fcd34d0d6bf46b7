-- Exports the definitions that the clauses of this crate cite. Declares nothing.
pub use Rattle.std.specs.Fmt.{decimal}
pub use Rattle.std.specs.Str.{chars}
pub use Rattle.kt_base.specs.Utf8.{utf8}
pub use Rattle.kt_removal.specs.Inner.Bounds.{IsSpent, root_limit_micros, case_limit_micros, min_root_steps}
pub use Rattle.kt_removal.specs.Inner.Removals.{IsCaseDirectory, IsRemovable, HasNextDirectory, IsNumber, MayEmpty, MayRemove, KeepsQueue, is_entry_name, queued_dir, waiting}
