use Rattle.std.proofs.Common.{◌≡◌, ◌++◌}
use Rattle.kt_metadata.proofs.Common.{pairs_in, custom_pairs}
use Rattle.kt_metadata.proofs.layer.Layer.add_custom_properties.Given as goal

-- The pairs so far, followed by the custom pairs of the remaining entries, are all pairs.
abbrev pub invariant-loop-name : goal.invariant-loop-name
invariant-loop-name l = l.pairs ++ custom_pairs (pairs_in l.name-iterator) ≡ l.initial.pairs ++ custom_pairs l.self
