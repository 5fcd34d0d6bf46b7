use Rattle.std.proofs.Common.{ap}
use Rattle.kt_base.proofs.Lists.{error_is}
use Rattle.kt_report.proofs.Common.{title_line_after, shows_as}
use Rattle.kt_report.proofs.TextSteps.{title_cut, entry_cut, entry_written}
use Rattle.kt_report.specs.Details.{reads_if_verbose}
use Rattle.kt_report.specs.Inner.Steps.{WritesEntries}
use Rattle.kt_report.proofs.sections.write_titled_entry.Goals as goal

pub returns-in_err-write_title : goal.returns-in_err-write_title
returns-in_err-write_title g c =
    let reads = reads_if_verbose c.args.verbose g.D.DetailSource.reads_pairs in
    let title = shows_as (ap (title_line_after c.args.before) c.kind-kind.ensures) c.in_err-write_title.ensures in
    error_is (WritesEntries reads _ _ _ _ c.args.verbose c.args.before _) _ _ c.from_residual.ensures.1 (title_cut reads c.args.verbose _ title)

pub returns-in_err-write_entry : goal.returns-in_err-write_entry
returns-in_err-write_entry g c =
    let reads = reads_if_verbose c.args.verbose g.D.DetailSource.reads_pairs in
    let title = shows_as (ap (title_line_after c.args.before) c.kind-kind.ensures) c.in_ok-write_title.ensures in
    error_is (WritesEntries reads _ _ _ _ c.args.verbose c.args.before _) _ _ c.from_residual-in_err-write_entry.ensures.1
    (entry_cut reads c.args.verbose title _ c.in_err-write_entry.ensures)

pub returns : goal.returns
returns g c =
    let reads = reads_if_verbose c.args.verbose g.D.DetailSource.reads_pairs in
    let title = shows_as (ap (title_line_after c.args.before) c.kind-kind.ensures) c.in_ok-write_title.ensures in
    entry_written reads c.args.verbose title c.kind-kind.ensures c.in_ok-write_entry.ensures
