use Rattle.std.proofs.Common.{sym, ◌∙◌}
use Rattle.kt_claim.proofs.LineParts.{trims, trim_ends}
use Rattle.kt_claim.proofs.line_parts.trim_trailing_blanks.Goals as goal

pub loop-b-preserved : goal.loop-b-preserved
loop-b-preserved c = trims c.loop-b.rest.now c.in-Some.front.now c.args.text.now c.in-Some.b.now c.loop-b.invariant c.in-Some.ensures.cases.0 (sym c.is_blank.ensures ∙ c.if-not-is_blank.false)

pub returns-then-not-is_blank : goal.returns-then-not-is_blank
returns-then-not-is_blank c = trim_ends c.loop-b.rest.now c.in-Some.front.now c.args.text.now c.in-Some.b.now c.loop-b.invariant c.in-Some.ensures.cases.0 (sym c.is_blank.ensures ∙ c.if-not-is_blank.true)
