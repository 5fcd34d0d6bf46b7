use Rattle.std.proofs.Common.{◌≡◌, ℕ, List, false, drop}
use Rattle.kt_base.proofs.Common.{Emits, joined, joined_after}
use Rattle.kt_base.proofs.Joining.{lent}
use Rattle.kt_base.proofs.emission.emit_all.Given as goal

-- the bytes `front` were written, and all parts joined are `front` followed by the remaining parts
abbrev pub invariant-loop-part : goal.invariant-loop-part
invariant-loop-part g l = (front : List ℕ) × Emits (g.W.Write.contents l.fn.out) (g.W.Write.contents l.out) false front
    × (joined_after front (lent (drop l.part-index l.parts)) ≡ joined (lent l.parts))
