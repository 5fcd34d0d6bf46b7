use Rattle.kt_base.proofs.Common.{chars, decimal}
use Rattle.kt_base.proofs.PartTexts.{two_numbers_text}
use Rattle.kt_base.proofs.parts.two_number_parts.Goals as goal

pub returns : goal.returns
returns c = two_numbers_text (chars c.args.head.now) (decimal c.args.first) (chars c.args.between.now) (decimal c.args.second) (chars c.args.tail.now)
