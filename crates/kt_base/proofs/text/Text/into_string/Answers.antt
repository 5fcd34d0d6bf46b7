use Rattle.std.proofs.Common.{sym, ap, ◌∙◌}
use Rattle.kt_base.proofs.Common.{string_bytes, encodes-chars, IsUtf8-string_bytes, utf8}
use Rattle.kt_base.proofs.text.Text.into_string.Goals as goal

pub returns : goal.returns
returns c = sym (encodes-chars (string_bytes c.self.inside.string) (IsUtf8-string_bytes c.self.inside.string)) ∙ ap utf8 c.self.view_is
