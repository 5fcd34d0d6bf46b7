-- The state of a `NonblockingOutput`, a writer that holds the bytes that its reader does not take
-- yet.
use Rattle.std.specs.Prelude.{ℕ, Bool, List, Option}
use Rattle.std.specs.Io.KnownBytes.{append_known}
use Rattle.kt_cli.specs.declared.output.nonblocking_output.NonblockingOutput.{NonblockingOutput}

-- `unsent_bytes h`: the bytes that the writer `h` holds, which are not written to its inner writer
-- yet.
abbrev pub unsent_bytes : {W : Type 0} → NonblockingOutput W → List ℕ
unsent_bytes h = h.held

-- `has_stopped h`: `true` if a write of the inner writer of `h` has failed. Then `h` writes nothing
-- more.
abbrev pub has_stopped : {W : Type 0} → NonblockingOutput W → Bool
has_stopped h = h.failed

-- `accepted_bytes contents h`: all bytes that were given to the writer `h`: those in the inner
-- writer, followed by the held bytes. `contents` returns the content of the inner writer, `None` if
-- it is unknown. So the written bytes are always a prefix of the given bytes.
abbrev pub accepted_bytes : {W : Type 0} → (W → Option (List ℕ)) → NonblockingOutput W → Option (List ℕ)
accepted_bytes contents h = append_known (contents h.out) (unsent_bytes h)
