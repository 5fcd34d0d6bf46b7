use Rattle.std.proofs.Common.{refl}
use Rattle.kt_child.proofs.Common.{chars}
use Rattle.kt_child.proofs.planning.workdir.workdir_plan.Goals as goal

pub returns : goal.returns
unfolding chars
returns c = rw (c.in_ok-dir.ensures, c.in_ok-work.ensures, c.in_ok-result.ensures, c.in_ok-out.ensures.first, c.in_ok-out.ensures.second, c.in_ok-cleanup_out.ensures.first, c.in_ok-cleanup_out.ensures.second) refl
