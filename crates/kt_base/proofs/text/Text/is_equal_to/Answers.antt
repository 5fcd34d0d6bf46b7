use Rattle.std.proofs.Common.{◌∙◌, ap, List, ℕ, bytes_eq}
use Rattle.kt_base.proofs.Common.{chars}
use Rattle.kt_base.proofs.Texts.{bytes_eq-chars}
use Rattle.kt_base.proofs.text.Text.is_equal_to.Goals as goal

pub returns : goal.returns
returns c =
    c.eq.ensures ∙ bytes_eq-chars c.as_str.result.now c.args.word.now c.as_str.utf8 c.utf8.word ∙ ap (λ (cs : List ℕ). bytes_eq cs (chars c.args.word.now)) c.as_str.ensures.characters
