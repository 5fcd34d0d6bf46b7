use Rattle.std.proofs.Common.{length}
use Rattle.kt_script.proofs.Scanning.{CountsOn}
use Rattle.kt_script.proofs.lexer.long_bracket_length.Given as goal

abbrev pub invariant-loop-after : goal.invariant-loop-after
invariant-loop-after l = CountsOn l.length l.rest l.text

abbrev pub decreases-loop-after : goal.decreases-loop-after
decreases-loop-after l = length l.rest
