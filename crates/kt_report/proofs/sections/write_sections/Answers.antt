use Rattle.std.proofs.Common.{None, ap, flat_map}
use Rattle.kt_base.proofs.Lists.{error_is}
use Rattle.kt_report.proofs.Common.{chosen_entries}
use Rattle.kt_report.proofs.TextSteps.{entries_as, entries_none, item_next, item_cut, items_all}
use Rattle.kt_report.specs.Details.{reads_if_verbose}
use Rattle.kt_report.specs.Inner.Steps.{WritesEntries}
use Rattle.kt_report.proofs.sections.write_sections.Goals as goal

pub loop-kind-init : goal.loop-kind-init
loop-kind-init g c = entries_none (reads_if_verbose c.args.verbose g.D.DetailSource.reads_pairs) c.args.verbose

pub returns-in_err-last : goal.returns-in_err-last
returns-in_err-last g c =
    let reads = reads_if_verbose c.args.verbose g.D.DetailSource.reads_pairs in
    let v = c.args.verbose in
    let due = chosen_entries c.args.kinds.now c.args.entries.now in
    let items = c.section_order-kind-items in
    error_is (WritesEntries reads _ _ _ _ v None _) _ _ c.from_residual.ensures.1
    (entries_as reads v (ap (flat_map due) items.ensures)
    (item_cut reads v due items.result.now c.loop-kind.kind-index _ c.loop-kind-test.true c.loop-kind.invariant c.in_err-last.ensures))

pub loop-kind-preserved : goal.loop-kind-preserved
loop-kind-preserved g c =
    item_next (reads_if_verbose c.args.verbose g.D.DetailSource.reads_pairs) c.args.verbose (chosen_entries c.args.kinds.now c.args.entries.now)
    c.section_order-kind-items.result.now c.loop-kind.kind-index _ c.loop-kind-test.true c.loop-kind.invariant c.in_ok-last.ensures

pub returns : goal.returns
returns g c =
    let reads = reads_if_verbose c.args.verbose g.D.DetailSource.reads_pairs in
    let v = c.args.verbose in
    let due = chosen_entries c.args.kinds.now c.args.entries.now in
    let items = c.section_order-kind-items in
    entries_as reads v (ap (flat_map due) items.ensures)
    (items_all reads v due items.result.now c.loop-kind.kind-index c.loop-kind-test.false c.loop-kind.invariant)
