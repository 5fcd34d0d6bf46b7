use Rattle.std.proofs.Common.{arith, ◌≡◌, refl}
use Rattle.kt_child.proofs.Common.{chars}
use Rattle.kt_child.proofs.planning.environment.push_locale_names.Goals as goal

pub returns : goal.returns
unfolding chars
returns c = let all : c.loop-name.name-index ≡ 8 = omega arith in rw (c.loop-name.invariant, all) refl
