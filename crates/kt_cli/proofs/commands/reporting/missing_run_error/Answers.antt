use Rattle.std.proofs.Common.{Ok, Err, Some, None, sym}
use Rattle.kt_cli.proofs.Common.{Head}
use Rattle.kt_cli.proofs.ShownRuns.{missing_all, missing_last, missing_this, missing_unread}
use Rattle.kt_cli.proofs.StoreChains.{stored_call}
use Rattle.kt_cli.proofs.commands.reporting.missing_run_error.Goals as goal

pub returns-in_default : goal.returns-in_default
returns-in_default g c = missing_last g.R.StoreSpec c.args.number _ (sym c.in_default.is)

pub returns-in-Ok-Some : goal.returns-in-Ok-Some
returns-in-Ok-Some g c =
    missing_this g.R.StoreSpec c.args.number _ _ c.in-Some.wanted (sym c.in-Some.is) _
    (stored_call g.R.StoreSpec (Head None (Ok (Some _))) _ _ (rw c.in-Ok-Some.field-0-is at c.in-Ok-Some.ensures.served))

pub returns-in-Ok-None : goal.returns-in-Ok-None
returns-in-Ok-None g c =
    missing_all g.R.StoreSpec c.args.number _ _ c.in-Some.wanted (sym c.in-Some.is)
    (stored_call g.R.StoreSpec (Head None (Ok None)) _ _ (rw c.in-Ok-None.field-0-is at c.in-Ok-None.ensures.served))

pub returns-in-Err : goal.returns-in-Err
returns-in-Err g c =
    missing_unread g.R.StoreSpec c.args.number _ _ c.in-Some.wanted (sym c.in-Some.is) c.in-Err.fault
    (stored_call g.R.StoreSpec (Head None (Err c.in-Err.fault)) _ _ c.in-Err.ensures.served)
