use Rattle.std.proofs.Common.{refl}
use Rattle.std.specs.Str.{chars}
use Rattle.kt_removal.proofs.removals.queued_path.Goals as goal

pub returns : goal.returns
unfolding chars
returns c =
    rw c.in_ok-path.ensures refl
