use Rattle.kt_report.proofs.Common.{junit_layout}
use Rattle.kt_report.proofs.InlineDetails.{all_written, junit_extends, none_fails, some_written}
use Rattle.kt_report.proofs.junit_report.junit.Goals as goal

pub returns-in-Ok : goal.returns-in-Ok
returns-in-Ok g c = all_written (junit_layout c.args.run.now) _ c.in-Ok.ensures

pub returns-in-Err-Details : goal.returns-in-Err-Details
returns-in-Err-Details g c = none_fails (junit_layout c.args.run.now) _ _ (rw c.in-Err-Details.field-0-is at c.in-Err-Details.ensures)

pub returns-in-Err-Report : goal.returns-in-Err-Report
returns-in-Err-Report g c = some_written (junit_layout c.args.run.now) _ _ (junit_extends c.args.run.now) (rw c.in-Err-Report.field-0-is at c.in-Err-Report.ensures)
