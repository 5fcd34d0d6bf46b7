use Rattle.kt_metadata.proofs.Common.{chars}
use Rattle.kt_metadata.proofs.Rows.{unlisted_told}
use Rattle.kt_metadata.proofs.reasons.unsupported_reason.Goals as goal

pub returns : goal.returns
unfolding chars
returns c =
    unlisted_told (chars c.args.front.now) (chars c.args.word.now) c.in_ok-reason.reason c.args.listed.now c.is_allowed.result c.is_allowed.ensures c.if-is_allowed.false c.in_ok-reason.ensures
