use Rattle.std.proofs.Common.{◌≡◌, length}
use Rattle.kt_claim.proofs.Common.{without_trailing_blanks}
use Rattle.kt_claim.proofs.line_parts.trim_trailing_blanks.Given as goal

abbrev pub invariant-loop-b : goal.invariant-loop-b
invariant-loop-b l = without_trailing_blanks l.rest ≡ without_trailing_blanks l.text

abbrev pub decreases-loop-b : goal.decreases-loop-b
decreases-loop-b l = length l.rest
