use Rattle.std.proofs.Common.{ap, sym}
use Rattle.kt_metadata.proofs.Common.{chars, truth_text}
use Rattle.kt_metadata.proofs.value.truth_keyword.Goals as goal

pub returns-then-value : goal.returns-then-value
unfolding chars
returns-then-value c = ap truth_text (sym c.if-value.true)

pub returns-else-value : goal.returns-else-value
unfolding chars
returns-else-value c = ap truth_text (sym c.if-value.false)
