use Rattle.std.proofs.Common.{length}
use Rattle.kt_claim.proofs.Common.{state_of}
use Rattle.kt_claim.proofs.Pieces.{Reaches}
use Rattle.kt_claim.proofs.tap_lines.read_piece.Given as goal

abbrev pub invariant-loop-rest : goal.invariant-loop-rest
invariant-loop-rest l = Reaches l.fn.tally (state_of l.fn.line) l.tally (state_of l.line) l.rest l.piece

abbrev pub decreases-loop-rest : goal.decreases-loop-rest
decreases-loop-rest l = length l.rest
