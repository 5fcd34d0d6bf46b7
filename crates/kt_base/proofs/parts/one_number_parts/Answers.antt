use Rattle.kt_base.proofs.Common.{chars, decimal}
use Rattle.kt_base.proofs.PartTexts.{one_number_text}
use Rattle.kt_base.proofs.parts.one_number_parts.Goals as goal

pub returns : goal.returns
returns c = one_number_text (chars c.args.head.now) (chars c.args.lead.now) (decimal c.args.first) (chars c.args.tail.now)
