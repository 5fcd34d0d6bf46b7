use Rattle.kt_base.proofs.Lists.{error_is}
use Rattle.kt_report.proofs.JunitSteps.{Ends, writes_none, heading_cut, case_cut, writes_next, end_cut, junit_written}
use Rattle.kt_report.proofs.junit_report.write_junit_report.Goals as goal

pub returns-in_err-write_heading : goal.returns-in_err-write_heading
returns-in_err-write_heading g c =
    error_is (Ends g.D.DetailSource.reads_outputs c.args.run.now _ _ _ _) _ _ c.from_residual.ensures.1
    (heading_cut g.D.DetailSource.reads_outputs c.args.run.now _ _ _ _ c.in_err-write_heading.ensures)

pub loop-entry-init : goal.loop-entry-init
loop-entry-init g c = writes_none g.D.DetailSource.reads_outputs c.args.run.now _ _ _ c.in_ok-write_heading.ensures

pub returns-in_err-write_case : goal.returns-in_err-write_case
returns-in_err-write_case g c =
    let items = c.as_slice-entry-items in
    error_is (Ends g.D.DetailSource.reads_outputs c.args.run.now _ _ _ _) _ _ c.from_residual-in_err-write_case.ensures.1
    (case_cut g.D.DetailSource.reads_outputs c.args.run.now _ _ _ _ _ _ items.result.now items.ensures c.loop-entry.entry-index _ _ c.loop-entry-test.true
    c.entry-item.is c.loop-entry.invariant _ c.in_err-write_case.ensures)

pub loop-entry-preserved : goal.loop-entry-preserved
loop-entry-preserved g c =
    let items = c.as_slice-entry-items in
    writes_next g.D.DetailSource.reads_outputs c.args.run.now _ _ _ _ _ _ items.result.now items.ensures c.loop-entry.entry-index _ _ c.loop-entry-test.true
    c.entry-item.is c.loop-entry.invariant c.in_ok-write_case.ensures

pub returns-in_err-emit : goal.returns-in_err-emit
returns-in_err-emit g c =
    let items = c.as_slice-entry-items in
    error_is (Ends g.D.DetailSource.reads_outputs c.args.run.now _ _ _ _) _ _ c.from_residual-in_err-emit.ensures.1
    (end_cut g.D.DetailSource.reads_outputs c.args.run.now _ _ _ _ _ items.result.now items.ensures c.loop-entry.entry-index c.loop-entry-test.false
    c.loop-entry.invariant _ c.in_err-emit.ensures)

pub returns : goal.returns
returns g c =
    let items = c.as_slice-entry-items in
    junit_written g.D.DetailSource.reads_outputs c.args.run.now _ _ _ _ _ items.result.now items.ensures c.loop-entry.entry-index c.loop-entry-test.false
    c.loop-entry.invariant c.in_ok-emit.ensures
