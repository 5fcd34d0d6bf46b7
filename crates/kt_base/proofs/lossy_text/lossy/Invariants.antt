use Rattle.std.proofs.Common.{◌≡◌, ◌++◌, length}
use Rattle.kt_base.proofs.Common.{lossy}
use Rattle.kt_base.proofs.lossy_text.lossy.Given as goal

abbrev pub invariant-loop-rest : goal.invariant-loop-rest
invariant-loop-rest l = l.text ++ lossy l.rest ≡ lossy l.bytes

abbrev pub decreases-loop-rest : goal.decreases-loop-rest
decreases-loop-rest l = length l.rest
