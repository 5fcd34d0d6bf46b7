use Rattle.std.proofs.Common.{◌∙◌, ap, sym}
use Rattle.kt_base.proofs.Common.{is_empty}
use Rattle.kt_base.proofs.Texts.{is_empty-chars}
use Rattle.kt_base.proofs.text.Text.is_empty.Goals as goal

pub returns : goal.returns
returns c =
    c.is_empty.ensures ∙ sym (is_empty-chars c.as_str.result.now c.as_str.utf8) ∙ ap is_empty c.as_str.ensures.characters
