use Rattle.std.proofs.Common.{arith}
use Rattle.kt_doubles.proofs.FreeSlots.{nowhere}
use Rattle.kt_doubles.proofs.children.running_child.Goals as goal

pub unreachable-requires : goal.unreachable-requires
unreachable-requires c =
    nowhere c.args.slots.now c.told-slots (λ i r l. c.loop-k.invariant i r (omega (arith, l, c.loop-k-test.false))) c.requires.0 c.requires.1 c.requires.2 c.requires.3
