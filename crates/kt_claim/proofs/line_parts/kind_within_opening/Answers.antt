use Rattle.std.proofs.Common.{arith}
use Rattle.kt_claim.proofs.LineParts.{part_of_word}
use Rattle.kt_claim.proofs.line_parts.kind_within_opening.Goals as goal

pub returns-else-is_empty : goal.returns-else-is_empty
returns-else-is_empty c = λ kept. part_of_word c.args.opening c.args.lacks.now (grind arith)
