use Rattle.kt_store.proofs.Common.{CommitsShowing, QueryMayCommit, Shown, [], arith, bound, state, subst}
use Rattle.kt_store.proofs.FaultLemmas.{on_err}
use Rattle.kt_store.proofs.StepLemmas.{not_run, query_refused, rests_then, prepare_then}
use Rattle.kt_store.proofs.statements.execute_query.Goals as goal

pub returns-in_err-statement-clause-rests : goal.returns-in_err-statement-clause-rests
returns-in_err-statement-clause-rests g c clean = on_err _ c.from_residual.result (not_run _ _ c.args.sql.now [] c.in_err-statement.field-0.0 (c.in_err-statement.ensures.err clean []))

pub returns-clause-rows : goal.returns-clause-rows
returns-clause-rows g c clean =
    let it = c.in_ok-statement.ensures.ok (omega (arith, clean, c.query_all.ensures.survives.clean)) in
    record {
      mid = c.prepare.new.self;
      same = it.1;
      shown = subst (λ sql. Shown sql (bound c.args.params.now) (state g.S.Store c.prepare.new.self) (state g.S.Store c.query_all.new.conn) c.in_ok-rows.rows.items) it.0 (c.in_ok-rows.ensures.ok clean);
    }

pub returns-clause-survives : goal.returns-clause-survives
returns-clause-survives g c =
    prepare_then (state g.S.Store c.args.conn.now) (state g.S.Store c.prepare.new.self) (state g.S.Store c.query_all.new.conn) (QueryMayCommit g.S.Store c.args.sql.now (bound c.args.params.now) c.args.conn.now) _ c.prepare.ensures.survives c.query_all.ensures.survives
    (λ clean db may. let it = c.in_ok-statement.ensures.ok clean in (c.prepare.new.self, it.1, subst (λ sql. CommitsShowing sql (bound c.args.params.now) (state g.S.Store c.prepare.new.self) db) it.0 may))

pub returns-in_err-rows-clause-rests : goal.returns-in_err-rows-clause-rests
returns-in_err-rows-clause-rests g c clean =
    let it = c.in_ok-statement.ensures.ok (omega (arith, clean, c.query_all.ensures.survives.clean)) in
    on_err _ c.from_residual-in_err-rows.result (rests_then _ _ _ it.1 (query_refused _ _ c.in_ok-statement.statement.text _ c.in_err-rows.field-0.0 (c.in_err-rows.ensures.err clean)))

pub returns-in_err-rows-clause-survives : goal.returns-in_err-rows-clause-survives
returns-in_err-rows-clause-survives g c =
    prepare_then (state g.S.Store c.args.conn.now) (state g.S.Store c.prepare.new.self) (state g.S.Store c.query_all.new.conn) (QueryMayCommit g.S.Store c.args.sql.now (bound c.args.params.now) c.args.conn.now) _ c.prepare.ensures.survives c.query_all.ensures.survives
    (λ clean db may. let it = c.in_ok-statement.ensures.ok clean in (c.prepare.new.self, it.1, subst (λ sql. CommitsShowing sql (bound c.args.params.now) (state g.S.Store c.prepare.new.self) db) it.0 may))
