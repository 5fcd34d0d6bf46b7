use Rattle.std.proofs.Common.{[], ◌∷◌, ℕ, false, take, flat_map}
use Rattle.kt_report.proofs.Common.{Emits, printable_byte}
use Rattle.kt_report.proofs.pairs.write_value.Given as goal

-- The first bytes were written.
abbrev pub invariant-loop-byte : goal.invariant-loop-byte
invariant-loop-byte g l = Emits (g.W.Write.contents l.fn.out) (g.W.Write.contents l.out) false (flat_map (λ (b : ℕ). printable_byte b ∷ []) (take l.byte-index l.value))
