use Rattle.std.proofs.Common.{rules, ◌≡◌, true, false, ap, sym, ◌∙◌}
use Rattle.kt_base.proofs.Lists.{error_is}
use Rattle.kt_report.proofs.Common.{is_same_kind}
use Rattle.kt_report.proofs.LineSteps.{if_of, if_of_is, if_of_not}
use Rattle.kt_report.proofs.TextSteps.{single, all_chosen, none_chosen, entries_none, entries_as, item_next, item_cut, items_all}
use Rattle.kt_report.specs.Details.{reads_if_verbose}
use Rattle.kt_report.specs.Inner.Steps.{WritesEntries}
use Rattle.kt_report.proofs.sections.write_section.Goals.{then-is_same_kind+in_ok-last, else-is_same_kind}
use Rattle.kt_report.proofs.sections.write_section.Goals as goal

pub returns-then-not-is_chosen : goal.returns-then-not-is_chosen
returns-then-not-is_chosen g c =
    let reads = reads_if_verbose c.args.verbose g.D.DetailSource.reads_pairs in
    let v = c.args.verbose in
    let other : c.is_chosen.result ≡ false = search rules in
    entries_as reads v (none_chosen c.args.kinds.now c.args.kind c.args.entries.now _ c.is_chosen.ensures other) (entries_none reads v)

pub loop-entry-init : goal.loop-entry-init
loop-entry-init g c = entries_none (reads_if_verbose c.args.verbose g.D.DetailSource.reads_pairs) c.args.verbose

pub returns-in_err-last : goal.returns-in_err-last
returns-in_err-last g c =
    let reads = reads_if_verbose c.args.verbose g.D.DetailSource.reads_pairs in
    let v = c.args.verbose in
    let kind = c.args.kind in
    let chosen : c.is_chosen.result ≡ true = search rules in
    let one = if_of_is single kind c.entry-item.result _ c.entry-item.is (ap (is_same_kind kind) (sym c.kind.ensures) ∙ sym c.if-is_same_kind.ensures) in
    error_is (WritesEntries reads _ _ _ _ v c.args.before _) _ _ c.from_residual.ensures.1
    (entries_as reads v (all_chosen c.args.kinds.now kind c.args.entries.now _ c.is_chosen.ensures chosen)
    (item_cut reads v (if_of single kind) c.args.entries.now c.loop-entry.entry-index _ c.loop-entry-test.true c.loop-entry.invariant
    (entries_as reads v one c.in_err-last.ensures)))

pub loop-entry-preserved : goal.loop-entry-preserved
loop-entry-preserved g c =
    let reads = reads_if_verbose c.args.verbose g.D.DetailSource.reads_pairs in
    let v = c.args.verbose in
    let kind = c.args.kind in
    let items = c.args.entries.now in
    let low = c.loop-entry-test.true in
    elim c.if-is_same_kind.branch [
      | then-is_same_kind+in_ok-last w ↦
          let one = if_of_is single kind c.entry-item.result _ c.entry-item.is (ap (is_same_kind kind) (sym c.kind.ensures) ∙ sym w.if-is_same_kind.ensures) in
          rw (w.details-is, w.out-is, w.last-is)
          (item_next reads v (if_of single kind) items c.loop-entry.entry-index c.entry-item.result low c.loop-entry.invariant
          (entries_as reads v one w.in_ok-last.ensures))
      | else-is_same_kind w ↦
          let none = if_of_not single kind c.entry-item.result _ c.entry-item.is (ap (is_same_kind kind) (sym c.kind.ensures) ∙ sym w.if-is_same_kind.ensures) in
          rw (w.details-is, w.out-is, w.last-is)
          (item_next reads v (if_of single kind) items c.loop-entry.entry-index c.entry-item.result low c.loop-entry.invariant
          (entries_as reads v none (entries_none reads v)))
    ]

pub returns : goal.returns
returns g c =
    let reads = reads_if_verbose c.args.verbose g.D.DetailSource.reads_pairs in
    let v = c.args.verbose in
    let kind = c.args.kind in
    let chosen : c.is_chosen.result ≡ true = search rules in
    entries_as reads v (all_chosen c.args.kinds.now kind c.args.entries.now _ c.is_chosen.ensures chosen)
    (items_all reads v (if_of single kind) c.args.entries.now c.loop-entry.entry-index c.loop-entry-test.false c.loop-entry.invariant)
