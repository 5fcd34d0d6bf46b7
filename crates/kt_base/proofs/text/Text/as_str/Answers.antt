use Rattle.std.proofs.Common.{sym, ap, ◌∙◌}
use Rattle.kt_base.proofs.Common.{string_bytes, encodes-chars, IsUtf8-string_bytes, utf8}
use Rattle.kt_base.proofs.text.Text.as_str.Goals as goal

pub returns-clause-bytes : goal.returns-clause-bytes
returns-clause-bytes c = c.as_str.ensures.value ∙ sym (encodes-chars (string_bytes c.self.inside.string) (IsUtf8-string_bytes c.self.inside.string)) ∙ ap utf8 c.self.view_is
