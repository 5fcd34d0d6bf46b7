use Rattle.std.proofs.Common.{◌≡◌, ◌*◌, ◌^◌, ◌≤◌, take, sum_by}
use Rattle.kt_report.proofs.Common.{Entry}
use Rattle.kt_report.proofs.summary.total_millis.Given as goal

-- The sum over the first entries, each of which adds less than 2 ^ 64.
abbrev pub invariant-loop-entry : goal.invariant-loop-entry
invariant-loop-entry l = (l.total ≡ sum_by (λ (e : Entry). e.millis) (take l.entry-index l.entries)) × (l.total ≤ l.entry-index * 2 ^ 64)
