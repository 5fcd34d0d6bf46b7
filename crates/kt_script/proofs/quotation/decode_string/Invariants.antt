use Rattle.std.proofs.Common.{length}
use Rattle.kt_script.proofs.Common.{Utf8, shadow}
use Rattle.kt_script.proofs.Quotations.{ReadsOn}
use Rattle.kt_script.proofs.quotation.decode_string.Given as goal

abbrev pub invariant-runs : goal.invariant-runs
invariant-runs l = ReadsOn l.quote l.string l.rest l.text × shadow (Utf8 l.rest)

abbrev pub decreases-runs : goal.decreases-runs
decreases-runs l = length l.rest
