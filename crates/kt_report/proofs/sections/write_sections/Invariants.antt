use Rattle.std.proofs.Common.{None, Ok, flat_map, take}
use Rattle.kt_report.proofs.Common.{chosen_entries}
use Rattle.kt_base.specs.declared.emission.OutputFault.{OutputFault}
use Rattle.kt_report.specs.Details.{reads_if_verbose}
use Rattle.kt_report.specs.Inner.Steps.{WritesEntries}
use Rattle.kt_report.proofs.sections.write_sections.Given as goal

-- The first sections were written.
abbrev pub invariant-loop-kind : goal.invariant-loop-kind
invariant-loop-kind g l =
    WritesEntries (reads_if_verbose l.verbose g.D.DetailSource.reads_pairs) l.fn.details (g.W.Write.contents l.fn.out) (g.W.Write.contents l.out) l.details {E = OutputFault} l.verbose None
    (flat_map (chosen_entries l.kinds l.entries) (take l.kind-index l.kind-items)) (Ok l.last)
