use Rattle.kt_base.proofs.PartTexts.{words_text}
use Rattle.kt_base.proofs.verdict.ReasonParts.from_text.Goals as goal

pub returns : goal.returns
returns c = words_text c.args.head.now
