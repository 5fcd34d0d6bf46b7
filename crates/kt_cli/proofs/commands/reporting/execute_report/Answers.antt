use Rattle.std.proofs.Common.{rules}
use Rattle.kt_cli.proofs.Testings.{did_report, did_junit}
use Rattle.kt_cli.proofs.commands.reporting.execute_report.Goals as goal

pub returns-in-Report : goal.returns-in-Report
returns-in-Report g c =
    did_report g.R.StoreSpec _ _ _ _ _ _ c.in-Report.options c.as_slice.result.now c.in-Report.verbose (search rules) c.report.ensures

pub returns-in-ReportJunit : goal.returns-in-ReportJunit
returns-in-ReportJunit g c = did_junit g.R.StoreSpec _ _ _ _ _ _ c.in-ReportJunit.options (search rules) c.report_junit.ensures
