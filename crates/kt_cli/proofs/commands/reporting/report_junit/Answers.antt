use Rattle.std.proofs.Common.{refl}
use Rattle.kt_cli.proofs.Common.{PrintsJunitReport}
use Rattle.kt_cli.specs.Reports.{not_shown}
use Rattle.kt_cli.proofs.ShownRuns.{did_show_junit, did_not_show, did_refuse, did_cut, did_stop}
use Rattle.kt_cli.proofs.commands.reporting.report_junit.Goals as goal

pub returns-in-Err : goal.returns-in-Err
returns-in-Err g c =
    did_not_show g.R.StoreSpec c.args.number _ _ _ _ _ (PrintsJunitReport c.args.number) c.in-Err.why _ not_shown
    c.in-Err.ensures c.write_report_error.ensures c.exit_after_write.ensures

pub returns-in-Ok-write_junit : goal.returns-in-Ok-write_junit
returns-in-Ok-write_junit g c =
    did_show_junit g.R.StoreSpec c.args.number _ _ _ _ _ _ _ c.in-Ok.run' c.in-Ok.ensures.stored c.in-Ok.ensures.finds c.in-Ok-write_junit.ensures refl

pub returns-in-Err-Details : goal.returns-in-Err-Details
returns-in-Err-Details g c =
    did_refuse g.R.StoreSpec c.args.number _ _ _ _ _ _ _ c.in-Ok.run' _ _ c.in-Err-Details.fault c.in-Ok.ensures.stored c.in-Ok.ensures.finds
    (rw c.in-Err-Details.field-0-is at c.in-Err-Details.ensures) c.write_store_error.ensures c.exit_after_write-in-Err-Details.ensures

pub returns-in-Err-Report-Output : goal.returns-in-Err-Report-Output
returns-in-Err-Report-Output g c =
    did_stop g.R.StoreSpec c.args.number _ _ _ _ _ _ _ c.in-Ok.run' _ c.in-Ok.ensures.stored c.in-Ok.ensures.finds
    (rw c.in-Err-Report-Output.field-0-is at c.in-Err-Report-Output.ensures) refl

pub returns : goal.returns
returns g c =
    did_cut g.R.StoreSpec c.args.number _ _ _ _ _ _ _ c.in-Ok.run' _ _ _ c.in-Ok.ensures.stored c.in-Ok.ensures.finds
    (rw c.in-Err-Report-NoMemory.field-0-is at c.in-Err-Report-NoMemory.ensures) c.write_memory_error.ensures c.exit_after_write-in-Err-Report-NoMemory.ensures
