use Rattle.std.proofs.Common.{length}
use Rattle.kt_claim.proofs.Parts.{TakesIn}
use Rattle.kt_claim.proofs.line_parts.feed_bytes.Given as goal

abbrev pub invariant-loop-b : goal.invariant-loop-b
invariant-loop-b l = TakesIn l.fn.begun l.state l.fn.kept.items l.kept.items l.part l.rest

abbrev pub decreases-loop-b : goal.decreases-loop-b
decreases-loop-b l = length l.rest
