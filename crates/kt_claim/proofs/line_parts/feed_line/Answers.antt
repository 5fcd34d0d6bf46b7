use Rattle.kt_claim.proofs.Common.{ne_eqb}
use Rattle.kt_claim.proofs.Parts.{holds_back, holds_none}
use Rattle.kt_claim.proofs.line_parts.feed_line.Goals as goal

pub returns-then-last-eq13 : goal.returns-then-last-eq13
returns-then-last-eq13 c = λ came knows. holds_back c.in_ok-begun.begun c.in_ok-line.field-0 c.feed_carriage_return.new.kept.items c.feed_bytes.new.kept.items came
    c.in-Some.front.now c.args.part.now c.in-Some.last.now c.in-Some.ensures.cases.0 c.if-last-eq13.true (c.in_ok-begun.ensures came knows) c.in_ok-line.ensures

pub returns : goal.returns
returns c = λ came knows. holds_none c.in_ok-begun.begun c.in_ok-line-2.field-0 c.feed_carriage_return.new.kept.items c.feed_bytes-2.new.kept.items came
    c.in-Some.front.now c.args.part.now c.in-Some.last.now c.in-Some.ensures.cases.0 (ne_eqb c.in-Some.last.now 13 c.if-last-eq13.false) (c.in_ok-begun.ensures came knows) c.in_ok-line-2.ensures
