use Rattle.std.proofs.Common.{false, take, flat_map}
use Rattle.kt_report.proofs.Common.{Emits, property_bytes}
use Rattle.kt_report.proofs.pairs.write_properties.Given as goal

-- The first pairs were written.
abbrev pub invariant-loop-pair : goal.invariant-loop-pair
invariant-loop-pair g l = Emits (g.W.Write.contents l.fn.out) (g.W.Write.contents l.out) false (flat_map property_bytes (take l.pair-index l.pairs))
