use Rattle.std.proofs.Common.{ap}
use Rattle.kt_base.proofs.Lists.{error_is}
use Rattle.kt_report.proofs.Common.{entries_by_section}
use Rattle.kt_report.proofs.TextSteps.{Ends, entries_as, sections_cut, summary_cut, text_written}
use Rattle.kt_report.specs.Details.{reads_if_verbose}
use Rattle.kt_report.proofs.text_report.write_text_report.Goals as goal

pub returns-in_err-write_sections : goal.returns-in_err-write_sections
returns-in_err-write_sections g c =
    let reads = reads_if_verbose c.args.verbose g.D.DetailSource.reads_pairs in
    let v = c.args.verbose in
    let run' = c.args.run.now in
    let date = c.civil_date-date.result in
    let due = entries_by_section c.args.kinds.now run'.entries in
    let same = ap (entries_by_section c.args.kinds.now) c.as_slice.ensures in (
      date,
      c.civil_date-date.ensures,
      error_is (Ends reads v due run' date _ _ _ _) _ _ c.from_residual.ensures.1 (sections_cut reads v due run' date _ (entries_as reads v same c.in_err-write_sections.ensures)),
    )

pub returns-in_err-write_summary : goal.returns-in_err-write_summary
returns-in_err-write_summary g c =
    let reads = reads_if_verbose c.args.verbose g.D.DetailSource.reads_pairs in
    let v = c.args.verbose in
    let run' = c.args.run.now in
    let date = c.civil_date-date.result in
    let due = entries_by_section c.args.kinds.now run'.entries in
    let same = ap (entries_by_section c.args.kinds.now) c.as_slice.ensures in (
      date,
      c.civil_date-date.ensures,
      error_is (Ends reads v due run' date _ _ _ _) _ _ c.from_residual-in_err-write_summary.ensures.1
          (summary_cut reads v due run' date (entries_as reads v same c.in_ok-write_sections.ensures) _ c.in_err-write_summary.ensures),
    )

pub returns : goal.returns
returns g c =
    let reads = reads_if_verbose c.args.verbose g.D.DetailSource.reads_pairs in
    let v = c.args.verbose in
    let run' = c.args.run.now in
    let date = c.civil_date-date.result in
    let due = entries_by_section c.args.kinds.now run'.entries in
    let same = ap (entries_by_section c.args.kinds.now) c.as_slice.ensures in
    (date, c.civil_date-date.ensures, text_written reads v due run' date (entries_as reads v same c.in_ok-write_sections.ensures) c.in_ok-write_summary.ensures)
