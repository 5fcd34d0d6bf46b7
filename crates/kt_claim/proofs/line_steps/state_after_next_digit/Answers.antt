use Rattle.std.proofs.Common.{◌∷◌, arith}
use Rattle.kt_claim.proofs.LineParts.{plans_none}
use Rattle.kt_claim.proofs.line_steps.state_after_next_digit.Goals as goal

pub returns-else-value-lt-PLAN_TESTS_LIMIT-clause-facts : goal.returns-else-value-lt-PLAN_TESTS_LIMIT-clause-facts
returns-else-value-lt-PLAN_TESTS_LIMIT-clause-facts c = λ b digit is kept more. plans_none c.args.value (b ∷ more) (b ∷ more) (grind arith)
