use Rattle.std.proofs.Common.{◌≡◌, ◌++◌, length}
use Rattle.kt_report.proofs.Common.{chars, escaped_text}
use denote.Shadow.{shadow}
use denote.Text.{Utf8}
use Rattle.kt_report.proofs.escaping.push_escaped_text.Given as goal

abbrev pub invariant-loop-rest : goal.invariant-loop-rest
invariant-loop-rest l = (l.escaped ++ escaped_text l.attribute (chars l.rest) ≡ l.fn.escaped ++ escaped_text l.attribute (chars l.text)) × shadow (Utf8 l.rest)

abbrev pub decreases-loop-rest : goal.decreases-loop-rest
decreases-loop-rest l = length l.rest
