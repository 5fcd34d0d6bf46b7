use Rattle.kt_base.proofs.Common.{encodes-chars}
use Rattle.kt_base.proofs.parts.emit_text.Goals as goal

pub returns : goal.returns
returns g c = rw (encodes-chars c.args.words.now c.utf8.words, ← c.as_bytes.ensures.value) c.emit.ensures
