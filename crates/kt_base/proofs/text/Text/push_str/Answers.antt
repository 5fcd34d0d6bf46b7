use Rattle.kt_base.proofs.Common.{string_bytes, IsUtf8-string_bytes}
use Rattle.kt_base.proofs.Characters.{pushed_str}
use Rattle.kt_base.proofs.text.Text.push_str.Goals as goal

pub returns-clause-ok : goal.returns-clause-ok
returns-clause-ok c = pushed_str (string_bytes c.self.inside.string) (string_bytes c.push_str.new.self) _ c.args.more.now (IsUtf8-string_bytes c.self.inside.string) c.in_ok-push_str.ensures.bytes c.self.view_is
