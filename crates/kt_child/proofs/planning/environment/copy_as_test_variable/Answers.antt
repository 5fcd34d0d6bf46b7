use Rattle.std.proofs.Common.{refl}
use Rattle.kt_child.proofs.Common.{chars}
use Rattle.kt_child.proofs.planning.environment.copy_as_test_variable.Goals as goal

pub returns : goal.returns
unfolding chars
returns c = rw (c.in_ok-name.ensures, c.in_ok-value.ensures, c.as_str.ensures.characters) refl
