use Rattle.std.proofs.Common.{rules}
use Rattle.kt_cli.proofs.Common.{outputs_reading}
use Rattle.kt_cli.proofs.StoredReports.{report_stored}
use Rattle.kt_cli.proofs.commands.reporting.write_junit.Goals as goal

pub returns : goal.returns
returns g c =
    let k = report_stored g.R.StoreSpec outputs_reading _ (λ s. s.results.now) (λ s. s.results.ghost_name) (λ s. s.number) (λ s t e r h. h) _ c.write_junit_report-written.ensures in
    search (rules, k.0, k.1)
