use Rattle.std.proofs.Common.{false, take, flat_map, slice_get}
use Rattle.kt_cli.proofs.Common.{Emits, utf8, warning_at}
use Rattle.kt_cli.proofs.messages.write_warnings.Given as goal

-- the warnings about the filters at the positions before the current position are written
abbrev pub invariant-loop-position : goal.invariant-loop-position
invariant-loop-position g l = Emits (g.O.Write.contents l.fn.out) (g.O.Write.contents l.out) false (flat_map (λ position. utf8 (warning_at (slice_get l.words position))) (take l.position-index l.unmatched))
