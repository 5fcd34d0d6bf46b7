use Rattle.kt_store.proofs.Common.{CommitsBy, Executes, StatementMayCommit, Ok, [], arith, bound, fails_whole, false, state, subst}
use Rattle.kt_store.proofs.FaultLemmas.{on_err}
use Rattle.kt_store.proofs.StepLemmas.{not_run, rests_then, prepare_then}
use Rattle.kt_store.proofs.statements.execute.Goals as goal

pub returns-in_err-statement-clause-rests : goal.returns-in_err-statement-clause-rests
returns-in_err-statement-clause-rests g c clean = on_err _ c.from_residual.result (not_run _ _ c.args.sql.now [] c.in_err-statement.field-0.0 (c.in_err-statement.ensures.err clean []))

pub returns-clause-executed : goal.returns-clause-executed
returns-clause-executed g c clean =
    let it = c.in_ok-statement.ensures.ok (omega (arith, clean, c.execute.ensures.survives.clean)) in
    record {
      mid = c.prepare.new.self;
      same = it.1;
      count = c.in_ok-execute.field-0;
      ran = subst (λ sql. Executes sql (bound c.args.params.now) (state g.S.Store c.prepare.new.self) (state g.S.Store c.execute.new.conn) (Ok c.in_ok-execute.field-0)) it.0 (c.in_ok-execute.ensures.runs clean);
    }

pub returns-clause-survives : goal.returns-clause-survives
returns-clause-survives g c =
    prepare_then (state g.S.Store c.args.conn.now) (state g.S.Store c.prepare.new.self) (state g.S.Store c.execute.new.conn) (StatementMayCommit g.S.Store c.args.sql.now (bound c.args.params.now) c.args.conn.now) _ c.prepare.ensures.survives c.execute.ensures.survives
    (λ clean db may. let it = c.in_ok-statement.ensures.ok clean in (c.prepare.new.self, it.1, subst (λ sql. CommitsBy sql (bound c.args.params.now) (state g.S.Store c.prepare.new.self) db) it.0 may))

pub returns-in_err-execute-clause-rests : goal.returns-in_err-execute-clause-rests
returns-in_err-execute-clause-rests g c clean =
    let it = c.in_ok-statement.ensures.ok (omega (arith, clean, c.execute.ensures.survives.clean)) in
    on_err _ c.from_residual-in_err-execute.result (rests_then _ _ _ it.1 (fails_whole _ _ false c.in_ok-statement.statement.text _ c.in_err-execute.field-0.0 (c.in_err-execute.ensures.runs clean)))

pub returns-in_err-execute-clause-survives : goal.returns-in_err-execute-clause-survives
returns-in_err-execute-clause-survives g c =
    prepare_then (state g.S.Store c.args.conn.now) (state g.S.Store c.prepare.new.self) (state g.S.Store c.execute.new.conn) (StatementMayCommit g.S.Store c.args.sql.now (bound c.args.params.now) c.args.conn.now) _ c.prepare.ensures.survives c.execute.ensures.survives
    (λ clean db may. let it = c.in_ok-statement.ensures.ok clean in (c.prepare.new.self, it.1, subst (λ sql. CommitsBy sql (bound c.args.params.now) (state g.S.Store c.prepare.new.self) db) it.0 may))
