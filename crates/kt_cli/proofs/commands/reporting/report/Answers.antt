use Rattle.std.proofs.Common.{rules, ◌≡◌, true, false, refl}
use Rattle.kt_cli.proofs.Common.{PrintsReport, not_shown}
use Rattle.kt_cli.proofs.ShownRuns.{did_show, did_not_show, did_show_pairs, did_refuse_pairs, did_stop_pairs}
use Rattle.kt_cli.proofs.commands.reporting.report.Goals as goal

pub returns-in-Err : goal.returns-in-Err
returns-in-Err g c =
    did_not_show g.R.StoreSpec c.args.number _ _ _ _ _ (λ failed. PrintsReport c.args.number c.args.kinds.now failed c.args.verbose)
    c.in-Err.why _ (not_shown c.args.verbose) c.in-Err.ensures c.write_report_error.ensures c.exit_after_write.ensures

pub returns-then-not-verbose : goal.returns-then-not-verbose
returns-then-not-verbose g c =
    let off : c.args.verbose ≡ false = search rules in
    did_show g.R.StoreSpec c.args.number _ _ _ _ _ c.args.kinds.now c.args.verbose _ c.in-Ok.run' _ off c.in-Ok.ensures.stored c.in-Ok.ensures.finds
    c.text.ensures c.exit_after_write-then-not-verbose.ensures

pub returns-in-Ok-write_text : goal.returns-in-Ok-write_text
returns-in-Ok-write_text g c =
    let on : c.args.verbose ≡ true = search rules in
    did_show_pairs g.R.StoreSpec c.args.number _ _ _ _ _ c.args.kinds.now c.args.verbose _ _ c.in-Ok.run' on c.in-Ok.ensures.stored c.in-Ok.ensures.finds
    c.in-Ok-write_text.ensures refl

pub returns-in-Err-Details : goal.returns-in-Err-Details
returns-in-Err-Details g c =
    let on : c.args.verbose ≡ true = search rules in
    did_refuse_pairs g.R.StoreSpec c.args.number _ _ _ _ _ c.args.kinds.now c.args.verbose _ _ c.in-Ok.run' _ _ c.in-Err-Details.fault on
    c.in-Ok.ensures.stored c.in-Ok.ensures.finds (rw c.in-Err-Details.field-0-is at c.in-Err-Details.ensures)
    c.write_store_error.ensures c.exit_after_write-in-Err-Details.ensures

pub returns : goal.returns
returns g c =
    let on : c.args.verbose ≡ true = search rules in
    did_stop_pairs g.R.StoreSpec c.args.number _ _ _ _ _ c.args.kinds.now c.args.verbose _ _ c.in-Ok.run' _ on c.in-Ok.ensures.stored c.in-Ok.ensures.finds
    (rw c.in-Err-Report.field-0-is at c.in-Err-Report.ensures) refl
