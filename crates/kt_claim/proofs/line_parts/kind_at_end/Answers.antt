use Rattle.std.proofs.Common.{[], ap, sym, ◌∙◌}
use Rattle.kt_claim.proofs.Common.{facts_with, LineProgress}
use Rattle.kt_claim.proofs.line_parts.kind_at_end.Goals as goal

pub returns-in-PartialOpening-clause-plain : goal.returns-in-PartialOpening-clause-plain
returns-in-PartialOpening-clause-plain c = λ plain kept. c.kind_within_opening.ensures kept ∙ ap (λ (b : LineProgress). facts_with b kept []) (sym c.in-PartialOpening.is)

pub returns-in-Digits-clause-plain : goal.returns-in-Digits-clause-plain
returns-in-Digits-clause-plain c = λ plain kept. c.kind_of_digits.ensures kept ∙ ap (λ (b : LineProgress). facts_with b kept []) (sym c.in-Digits.is)

pub returns-in-Blanks-clause-plain : goal.returns-in-Blanks-clause-plain
returns-in-Blanks-clause-plain c = λ plain kept. c.kind_of_plan.ensures kept ∙ ap (λ (b : LineProgress). facts_with b kept []) (sym c.in-Blanks.is)
