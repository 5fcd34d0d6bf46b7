use Rattle.std.proofs.Common.{◌≡◌, ◌+◌, length}
use Rattle.kt_report.proofs.Common.{prefix_len}
use Rattle.kt_report.proofs.Runs.{is_unescaped}
use Rattle.kt_report.proofs.escaping.unescaped_length.Given as goal

abbrev pub invariant-loop-chunk : goal.invariant-loop-chunk
invariant-loop-chunk l = (prefix_len (is_unescaped l.attribute) l.text ≡ l.length + prefix_len (is_unescaped l.attribute) l.rest) × (l.length + length l.rest ≡ length l.text)

abbrev pub decreases-loop-chunk : goal.decreases-loop-chunk
decreases-loop-chunk l = length l.rest
