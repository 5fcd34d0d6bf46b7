use Rattle.kt_claim.proofs.Common.{state_of}
use Rattle.kt_claim.proofs.Pieces.{piece_ends, piece_goes_on}
use Rattle.kt_claim.proofs.tap_lines.read_piece.Goals as goal

pub returns-in_default : goal.returns-in_default
returns-in_default c = piece_ends c.args.tally c.loop-rest.tally (state_of c.args.line.now) (state_of c.loop-rest.line) (state_of c.feed_part.new.line) c.loop-rest.rest.now _ _ c.args.piece.now
    c.line_length.result c.loop-rest.invariant c.line_length.ensures.value c.split_at.ensures.front c.split_at.ensures.back c.in_default.ensures.cases c.in_ok-feed_part.ensures

pub loop-rest-preserved : goal.loop-rest-preserved
loop-rest-preserved c = piece_goes_on c.args.tally c.loop-rest.tally c.in_ok-tally.tally (state_of c.args.line.now) (state_of c.loop-rest.line) (state_of c.feed_part.new.line)
    (state_of c.end_line.new.line) c.loop-rest.rest.now _ _ c.in-Some.after.now c.args.piece.now c.line_length.result _ c.loop-rest.invariant c.line_length.ensures.value
    c.split_at.ensures.front c.split_at.ensures.back c.in-Some.ensures.cases.0 c.in_ok-feed_part.ensures c.in_ok-tally.ensures
