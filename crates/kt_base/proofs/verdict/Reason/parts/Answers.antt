use Rattle.std.proofs.Common.{◌∙◌}
use Rattle.kt_base.proofs.Common.{chars-nil}
use Rattle.kt_base.proofs.PartTexts.{phrase_alone}
use Rattle.kt_base.proofs.verdict.Reason.parts.Goals as goal

pub returns-in-Nothing : goal.returns-in-Nothing
returns-in-Nothing c = rw c.in-Nothing.is (c.from_text.ensures ∙ chars-nil)

pub returns-in-Fixed : goal.returns-in-Fixed
returns-in-Fixed c = rw c.in-Fixed.is (phrase_alone _ c.text.result.now c.in-Fixed.phrase c.from_text-in-Fixed.ensures c.text.ensures)
