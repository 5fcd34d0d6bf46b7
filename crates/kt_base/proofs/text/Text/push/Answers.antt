use Rattle.kt_base.proofs.Common.{string_bytes, IsUtf8-string_bytes}
use Rattle.kt_base.proofs.Characters.{pushed}
use Rattle.kt_base.proofs.text.Text.push.Goals as goal

pub returns-clause-ok : goal.returns-clause-ok
returns-clause-ok c = pushed (string_bytes c.self.inside.string) (string_bytes c.push.new.self) _ c.args.c (IsUtf8-string_bytes c.self.inside.string) c.ranges.c.0 c.in_ok-push.ensures.bytes c.self.view_is
