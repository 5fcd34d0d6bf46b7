use Rattle.std.proofs.Common.{Ok, flat_map, take}
use Rattle.kt_report.proofs.LineSteps.{if_of}
use Rattle.kt_report.proofs.TextSteps.{single}
use Rattle.kt_base.specs.declared.emission.OutputFault.{OutputFault}
use Rattle.kt_report.specs.Details.{reads_if_verbose}
use Rattle.kt_report.specs.Inner.Steps.{WritesEntries}
use Rattle.kt_report.proofs.sections.write_section.Given as goal

-- The first entries of the kind were written.
abbrev pub invariant-loop-entry : goal.invariant-loop-entry
invariant-loop-entry g l =
    WritesEntries (reads_if_verbose l.verbose g.D.DetailSource.reads_pairs) l.fn.details (g.W.Write.contents l.fn.out) (g.W.Write.contents l.out) l.details {E = OutputFault} l.verbose l.fn.before
    (flat_map (if_of single l.kind) (take l.entry-index l.entries)) (Ok l.last)
