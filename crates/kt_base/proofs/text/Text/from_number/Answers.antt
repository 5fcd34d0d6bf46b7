use Rattle.std.proofs.Common.{ap, ◌∙◌}
use Rattle.kt_base.proofs.Common.{decimal, chars, IsAscii-decimal, chars-IsAscii}
use Rattle.kt_base.proofs.text.Text.from_number.Goals as goal

pub returns : goal.returns
returns c = ap chars c.in_ok-to_string.ensures.ok ∙ chars-IsAscii (decimal c.args.n) (IsAscii-decimal c.args.n c.ranges.n.fits)
