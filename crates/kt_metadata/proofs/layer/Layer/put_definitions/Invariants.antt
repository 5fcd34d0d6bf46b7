use Rattle.std.proofs.Common.{◌≡◌, ◌++◌}
use Rattle.kt_metadata.proofs.Common.{last_values, pairs_in, HaveParsedValues}
use Rattle.kt_metadata.proofs.layer.Layer.put_definitions.Given as goal

-- Setting the remaining entries gives the final values.
abbrev pub invariant-loop-name : goal.invariant-loop-name
invariant-loop-name l = (last_values (l.self ++ pairs_in l.name-iterator) ≡ last_values (l.initial.self ++ l.more)) × HaveParsedValues l.name-iterator × (l.self ≡ last_values l.self)
