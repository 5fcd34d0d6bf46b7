use Rattle.std.proofs.Common.{◌∷◌, ◌∙◌}
use Rattle.kt_claim.proofs.LineParts.{whole_word}
use Rattle.kt_claim.proofs.line_steps.state_within_opening.Goals as goal

pub returns-in-None-clause-facts : goal.returns-in-None-clause-facts
returns-in-None-clause-facts c = λ kept more. c.state_after_opening.ensures.facts kept more ∙ whole_word c.args.opening c.args.lacks.now (c.args.b ∷ more) c.in-None.ensures.cases
