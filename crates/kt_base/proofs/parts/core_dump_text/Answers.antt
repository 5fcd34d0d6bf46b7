use Rattle.kt_base.proofs.Common.{chars-nil}
use Rattle.kt_base.proofs.PartTexts.{dumped_words}
use Rattle.kt_base.proofs.parts.core_dump_text.Goals as goal

pub returns-then-core : goal.returns-then-core
returns-then-core c = rw c.if-core.true dumped_words

pub returns-else-core : goal.returns-else-core
returns-else-core c = rw c.if-core.false chars-nil
