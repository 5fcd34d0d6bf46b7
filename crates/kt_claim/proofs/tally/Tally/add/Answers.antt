use Rattle.std.proofs.Common.{ap, ◌∙◌}
use Rattle.kt_claim.proofs.Common.{facts_of_kind, LineKind, plan_reason}
use Rattle.kt_claim.proofs.Tallies.{after_bail, with_other, with_bail_out, with_test, with_failure, with_one_plan, if_ok}
use Rattle.kt_claim.proofs.tally.Tally.add.Goals as goal

pub returns-then-self : goal.returns-then-self
returns-then-self c = λ line lines is few h. after_bail c.args.self line lines c.if-self.true h

pub returns-in-Other : goal.returns-in-Other
returns-in-Other c = λ line lines is few h. with_other c.args.self line lines (is ∙ ap (λ (k : LineKind). facts_of_kind k c.args.reason.now) c.in-Other.is) c.if-self.false h

pub returns-in-Bail : goal.returns-in-Bail
returns-in-Bail c = λ line lines is few h. with_bail_out c.args.self c.with_bail_out.result line lines (is ∙ ap (λ (k : LineKind). facts_of_kind k c.args.reason.now) c.in-Bail.is) c.if-self.false
    c.with_bail_out.ensures h

pub returns-in-Test : goal.returns-in-Test
returns-in-Test c = λ line lines is few h. with_test c.args.self c.with_test.result line lines (is ∙ ap (λ (k : LineKind). facts_of_kind k c.args.reason.now) c.in-Test.is) c.if-self.false
    c.with_test.ensures few h

pub returns-in-Failure : goal.returns-in-Failure
returns-in-Failure c = λ line lines is few h. with_failure c.args.self c.with_test-in-Failure.result c.with_failure.result line lines (is ∙ ap (λ (k : LineKind). facts_of_kind k c.args.reason.now) c.in-Failure.is)
    c.if-self.false c.with_test-in-Failure.ensures c.with_failure.ensures few h

pub returns-in-Plan : goal.returns-in-Plan
returns-in-Plan c = if_ok c.with_plan.result _ _ (λ after made line lines is few h. with_one_plan c.args.self after line lines c.in-Plan.tests (plan_reason c.in-Plan.tests c.args.reason.now)
    (is ∙ ap (λ (k : LineKind). facts_of_kind k c.args.reason.now) c.in-Plan.is) c.if-self.false made h) c.with_plan.ensures
