use Rattle.std.proofs.Common.{ℕ, Option, [], ap, sym, ◌∙◌}
use Rattle.kt_claim.proofs.Common.{facts_with, Digits}
use Rattle.kt_claim.proofs.line_parts.kind_of_digits.Goals as goal

pub returns-in-Some : goal.returns-in-Some
returns-in-Some c = λ kept. c.kind_of_plan.ensures kept ∙ ap (λ (o : Option ℕ). facts_with (Digits o) kept []) (sym c.in-Some.is)
