use Rattle.std.proofs.Common.{rules}
use Rattle.kt_cli.proofs.Common.{pairs_reading}
use Rattle.kt_cli.proofs.StoredReports.{report_stored}
use Rattle.kt_cli.proofs.commands.reporting.write_text.Goals as goal

pub returns : goal.returns
returns g c =
    let w = c.write_text_report-written.ensures in
    let k = report_stored g.R.StoreSpec pairs_reading _ (λ s. s.results.now) (λ s. s.results.ghost_name) (λ s. s.number) (λ s t e r h. h) _ w.2 in
    (w.0, w.1, search (rules, k.0, k.1))
