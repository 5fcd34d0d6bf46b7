-- The state of a `LineOutput`, a buffered writer that may write line by line.
use Rattle.std.specs.Prelude.{ℕ, Bool, true, false, List, [], ◌≡◌, ◌<◌, ◌||◌, Option, Some, None, length, is_some}
use Rattle.std.specs.Io.KnownBytes.{append_known}
use Rattle.kt_cli.specs.declared.output.flushing.FlushFault.{FlushFault}
use Rattle.kt_cli.specs.declared.output.line_output.LineOutput.{LineOutput}

-- `unwritten l`: the bytes that were given to the writer `l` and are not written to its inner
-- writer yet. After a failure they are never written.
abbrev pub unwritten : {W : Type 0} → LineOutput W → List ℕ
unwritten l = l.held

-- `has_failed l`: `true` if a write of the inner writer of `l` has failed.
abbrev pub has_failed : {W : Type 0} → LineOutput W → Bool
has_failed l = l.failed

-- `flush_fault l`: the fault of the flush of the inner writer of `l`, or `None` if no flush failed.
abbrev pub flush_fault : {W : Type 0} → LineOutput W → Option FlushFault
flush_fault l = l.flush_fault

-- `is_broken l`: `true` if a write or a flush of the inner writer of `l` has failed. Then `l`
-- writes nothing more.
abbrev pub is_broken : {W : Type 0} → LineOutput W → Bool
is_broken l = has_failed l || is_some (flush_fault l)

-- `given_bytes contents l`: all bytes that were given to `l`: those in the inner writer, followed
-- by the unwritten bytes. `contents` returns the content of the inner writer, `None` if it is
-- unknown.
abbrev pub given_bytes : {W : Type 0} → (W → Option (List ℕ)) → LineOutput W → Option (List ℕ)
given_bytes contents l = append_known (contents l.out) (unwritten l)

-- `LineState`: the state of a buffered writer. `given` are all bytes that were given to it, or
-- `None` if the content of the inner writer is unknown. `unwritten` are those that are not written
-- yet. `failed` is true if a write of the inner writer failed. `flush_fault` is the fault of its
-- flush, if the flush failed.
pub record LineState : Type 0 where
  pub given : Option (List ℕ)
  pub unwritten : List ℕ
  pub failed : Bool
  pub flush_fault : Option FlushFault

-- `line_state contents l`: the state of the writer `l`. `contents` returns the content of the inner
-- writer, `None` if it is unknown.
abbrev pub line_state : {W : Type 0} → (W → Option (List ℕ)) → LineOutput W → LineState
line_state contents l = record { given = given_bytes contents l; unwritten = unwritten l; failed = has_failed l; flush_fault = flush_fault l }

-- `FlushResult failed flush unwritten fails`: `fails` is whether a flush failed. After the flush,
-- `failed` is whether a write has failed, `flush` is the fault of the inner writer's flush, and
-- `unwritten` are the unwritten bytes. If no write and no inner flush failed, all bytes are written
-- and the flush succeeded. If a write has failed, bytes are unwritten and the flush failed. If only
-- the inner flush failed, the flush failed.
abbrev pub FlushResult : Bool → Option FlushFault → List ℕ → Bool → Type 0
FlushResult false None unwritten fails = (unwritten ≡ []) × (fails ≡ false)
FlushResult true flush unwritten fails = (0 < length unwritten) × (fails ≡ true)
FlushResult false (Some fault) unwritten fails = fails ≡ true
