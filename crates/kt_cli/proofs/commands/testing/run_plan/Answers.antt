use Rattle.std.proofs.Common.{Ok, Err, rules, ◌≡◌}
use Rattle.kt_cli.proofs.Common.{Began, Finished}
use Rattle.kt_cli.proofs.PlanRuns.{ran_unbegun, ran_failed, ran_unfinished, ran_all}
use Rattle.kt_cli.proofs.StoreChains.{stored_call}
use Rattle.kt_cli.proofs.commands.testing.run_plan.Goals as goal

pub returns-in-Err-clause-ran : goal.returns-in-Err-clause-ran
returns-in-Err-clause-ran g c =
    ran_unbegun g.L.Launcher g.R.StoreSpec _ _ _ _ _ _ _ _ (search rules)
    (stored_call g.R.StoreSpec (Began _ c.args.planned.moment (Err c.in-Err.fault)) _ _ c.in-Err.ensures) c.write_store_error.ensures c.exit_after_write.ensures

pub returns-in-Err-answer-clause-ran : goal.returns-in-Err-answer-clause-ran
returns-in-Err-answer-clause-ran g c =
    let a : c.record_cases-answer.result.0 ≡ Err c.in-Err-answer.fault = search rules in
    ran_failed g.L.Launcher g.R.StoreSpec _ _ _ _ _ _ _ _ _ _ _ _ (search rules)
    (stored_call g.R.StoreSpec (Began _ c.args.planned.moment (Ok c.in-Ok.number)) _ _ c.in-Ok.ensures)
    _ c.record_cases-answer.ensures.records c.in-Err-answer.fault a c.write_run_fault.ensures c.exit_after_write-in-Err-answer.ensures

pub returns-in-Err-finish-clause-ran : goal.returns-in-Err-finish-clause-ran
returns-in-Err-finish-clause-ran g c =
    let a : c.record_cases-answer.result.0 ≡ Ok c.in-Ok-answer.totals = search rules in
    ran_unfinished g.L.Launcher g.R.StoreSpec _ _ _ _ _ _ _ _ _ _ _ _ (search rules)
    (stored_call g.R.StoreSpec (Began _ c.args.planned.moment (Ok c.in-Ok.number)) _ _ c.in-Ok.ensures)
    _ c.record_cases-answer.ensures.records _ c.in-Ok-answer.totals a c.in-Err-finish.fault
    (stored_call g.R.StoreSpec (Finished c.in-Ok.number (Err c.in-Err-finish.fault)) _ _ c.in-Err-finish.ensures) _ c.convert_store_fault.ensures c.write_run_fault-in-Err-finish.ensures c.exit_after_write-in-Err-finish.ensures

pub returns-clause-ran : goal.returns-clause-ran
returns-clause-ran g c =
    let a : c.record_cases-answer.result.0 ≡ Ok c.in-Ok-answer.totals = search rules in
    ran_all g.L.Launcher g.R.StoreSpec _ _ _ _ _ _ _ _ _ _ _ _ (search rules)
    (stored_call g.R.StoreSpec (Began _ c.args.planned.moment (Ok c.in-Ok.number)) _ _ c.in-Ok.ensures)
    _ c.record_cases-answer.ensures.records _ c.in-Ok-answer.totals a _
    (stored_call g.R.StoreSpec (Finished c.in-Ok.number (Ok tt)) _ _ c.in-Ok-finish.ensures) (rw (c.as_slice-unmatched.ensures) at c.write_totals_and_warnings-all.ensures) (rw (c.as_slice-unmatched.ensures) at c.exit_status.ensures) c.exit_after_write-in-Ok-finish.ensures
