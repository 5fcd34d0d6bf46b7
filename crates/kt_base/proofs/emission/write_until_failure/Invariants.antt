use Rattle.std.proofs.Common.{◌-◌, ◌≤◌, length, take}
use Rattle.kt_base.proofs.Common.{Appends}
use Rattle.kt_base.proofs.emission.write_until_failure.Given as goal

-- the first `sent` bytes of `bytes` were written
abbrev pub invariant-loop-sent : goal.invariant-loop-sent
invariant-loop-sent g l = (l.sent ≤ length l.bytes) × Appends (g.W.Write.contents l.fn.out) (g.W.Write.contents l.out) (take l.sent l.bytes)

abbrev pub decreases-loop-sent : goal.decreases-loop-sent
decreases-loop-sent g l = length l.bytes - l.sent
