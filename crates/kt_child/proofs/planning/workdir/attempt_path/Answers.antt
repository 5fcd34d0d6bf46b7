use Rattle.std.proofs.Common.{refl}
use Rattle.kt_child.proofs.Common.{chars}
use Rattle.kt_child.proofs.planning.workdir.attempt_path.Goals as goal

pub returns : goal.returns
unfolding chars
returns c = rw (c.in_ok-push_str.ensures.ok, c.in_ok-push.ensures.ok, c.in_ok-path.ensures) refl
