use Rattle.std.proofs.Common.{Ok, Err, Some, None}
use Rattle.kt_cli.proofs.Common.{Head, Outline}
use Rattle.kt_cli.proofs.ShownRuns.{reads_no_head, reads_missing, reads_no_outline, reads_run}
use Rattle.kt_cli.proofs.StoreChains.{stored_call}
use Rattle.kt_cli.proofs.commands.reporting.read_run.Goals as goal

pub returns-in-Err : goal.returns-in-Err
returns-in-Err g c =
    reads_no_head g.R.StoreSpec c.args.number _ _ c.in-Err.fault
    (stored_call g.R.StoreSpec (Head c.args.number (Err c.in-Err.fault)) _ _ c.in-Err.ensures.served)

pub returns-in_default : goal.returns-in_default
returns-in_default g c =
    reads_missing g.R.StoreSpec c.args.number _ _ _ c.missing_run_error.result
    (stored_call g.R.StoreSpec (Head c.args.number (Ok None)) _ _ (rw c.in_default.is at c.in-Ok.ensures.served)) c.missing_run_error.ensures

pub returns-in-Ok-outline : goal.returns-in-Ok-outline
returns-in-Ok-outline g c =
    reads_run g.R.StoreSpec c.args.number _ _ _ c.in-Some.head c.in-Ok-outline.entries.items c.from_vec.result c.from_vec.ensures
    (stored_call g.R.StoreSpec (Head c.args.number (Ok (Some c.in-Some.head))) _ _ (rw c.in-Some.is at c.in-Ok.ensures.served)) (rw c.in-Some.is at c.in-Ok.ensures.numbered)
    (stored_call g.R.StoreSpec (Outline c.in-Some.head.number (Ok c.in-Ok-outline.entries.items)) _ _ c.in-Ok-outline.ensures)

pub returns-in-Err-outline : goal.returns-in-Err-outline
returns-in-Err-outline g c =
    reads_no_outline g.R.StoreSpec c.args.number _ _ _ c.in-Some.head c.in-Err-outline.fault
    (stored_call g.R.StoreSpec (Head c.args.number (Ok (Some c.in-Some.head))) _ _ (rw c.in-Some.is at c.in-Ok.ensures.served)) (rw c.in-Some.is at c.in-Ok.ensures.numbered)
    (stored_call g.R.StoreSpec (Outline c.in-Some.head.number (Err c.in-Err-outline.fault)) _ _ c.in-Err-outline.ensures)
