use Rattle.std.proofs.Common.{length}
use Rattle.kt_script.proofs.Common.{Utf8, shadow}
use Rattle.kt_script.proofs.Going.{GoesOn}
use Rattle.kt_script.proofs.script.statements.Given as goal

abbrev pub invariant-loop-rest : goal.invariant-loop-rest
invariant-loop-rest l = GoesOn l.place l.parser l.line l.rest l.text × shadow (Utf8 l.rest)

abbrev pub decreases-loop-rest : goal.decreases-loop-rest
decreases-loop-rest l = length l.rest
