-- The assumption on opened files holds for empty files.
use Rattle.std.proofs.Math.Nat.{lt_irrefl}
use Rattle.std.specs.Prelude.{[]}
use Rattle.kt_store.specs.TrustedContents.{IsTrustedImage}

-- Theorem: `IsTrustedImage` holds for empty files, because they list no tables.
pub empty_files_are_trusted : IsTrustedImage (record { log = []; db = [] })
empty_files_are_trusted size pages found lists = absurd (lt_irrefl 0 found.present)
