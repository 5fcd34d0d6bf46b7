use Rattle.std.proofs.Common.{ap, sym, ◌∙◌}
use Rattle.kt_claim.proofs.Common.{facts_of_kind, state_of, without_trailing_blanks}
use Rattle.kt_claim.proofs.Lines.{tap_at_end}
use Rattle.kt_claim.proofs.tap_lines.tap_at_end.Goals as goal

pub returns : goal.returns
returns c = λ fed short h. tap_at_end c.args.tally c.in_ok-tally.tally (state_of c.args.line.now) c.kind_at_end.result c.tap.result fed (c.kind_at_end.ensures.plain, c.kind_at_end.ensures.reason)
    (λ line ls is few t. c.in_ok-tally.ensures line ls (is ∙ ap (facts_of_kind c.kind_at_end.result) (sym (c.trim_trailing_blanks.ensures ∙ ap without_trailing_blanks c.deref.ensures.value))) few t) c.tap.ensures short h
