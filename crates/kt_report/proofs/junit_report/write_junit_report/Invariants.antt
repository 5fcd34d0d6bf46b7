use Rattle.std.proofs.Common.{take}
use Rattle.kt_report.proofs.JunitSteps.{Written}
use Rattle.kt_report.proofs.junit_report.write_junit_report.Given as goal

-- The start of the report and the first cases were written.
abbrev pub invariant-loop-entry : goal.invariant-loop-entry
invariant-loop-entry g l = Written g.D.DetailSource.reads_outputs l.fn.run l.fn.details (g.W.Write.contents l.fn.out) (take l.entry-index l.fn.run.entries) (g.W.Write.contents l.out) l.details
