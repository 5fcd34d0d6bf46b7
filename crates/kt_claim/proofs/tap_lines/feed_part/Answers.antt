use Rattle.kt_claim.proofs.Common.{state_of}
use Rattle.kt_claim.proofs.Lines.{line_goes_on}
use Rattle.kt_claim.proofs.tap_lines.feed_part.Goals as goal

pub returns : goal.returns
returns c = λ none tally fed h. line_goes_on tally (state_of c.args.line.now) (state_of c.feed_line.new.line) c.args.part.now fed none c.in_ok-feed_line.ensures h
