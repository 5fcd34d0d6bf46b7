use Rattle.std.proofs.Common.{◌≡◌, map, take}
use Rattle.kt_child.proofs.Common.{chars}
use Rattle.kt_child.proofs.planning.environment.push_locale_names.Given as goal

abbrev pub invariant-loop-name : goal.invariant-loop-name
invariant-loop-name l = l.names ≡ map (λ s. chars s.now) (take l.name-index l.name-items)
