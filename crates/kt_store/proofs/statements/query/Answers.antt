use Rattle.kt_store.proofs.Common.{IsSchema2Database, arith, bound, state}
use Rattle.kt_store.proofs.AskLemmas.{asked_mid, asked_stands, asked_survives}
use Rattle.kt_store.proofs.StepLemmas.{rests_hold}
use Rattle.kt_store.proofs.statements.query.Goals as goal

pub returns-clause-shown : goal.returns-clause-shown
returns-clause-shown g c runs has clean =
    let it = c.in_ok-rows.ensures.rows clean in
    record {
      mid = it.mid;
      stored = asked_mid g.S.Store c.args.conn.now c.execute_query.new.conn runs has (λ k. omega (arith, k, c.execute_query.ensures.survives.clean)) c.args.sql.now c.requires.plain (bound c.args.params.now) c.in_ok-rows.rows.items clean it;
      shown = it.shown;
    }

pub returns-in_err-rows-clause-looked : goal.returns-in_err-rows-clause-looked
returns-in_err-rows-clause-looked g c = record {
  stands = λ runs has. rests_hold (λ db. IsSchema2Database db runs) (state g.S.Store c.args.conn.now) (state g.S.Store c.execute_query.new.conn) has (λ k. omega (arith, k, c.execute_query.ensures.survives.clean)) c.in_err-rows.ensures.rests;
  crash = λ runs has. asked_survives g.S.Store c.args.conn.now c.execute_query.new.conn runs has (λ k. omega (arith, k, c.execute_query.ensures.survives.clean)) c.args.sql.now c.requires.plain (bound c.args.params.now) c.execute_query.ensures.survives;
}

pub returns-in_err-check_columns-clause-looked : goal.returns-in_err-check_columns-clause-looked
returns-in_err-check_columns-clause-looked g c = record {
  stands = λ runs has. asked_stands g.S.Store c.args.conn.now c.execute_query.new.conn runs has (λ k. omega (arith, k, c.execute_query.ensures.survives.clean)) c.args.sql.now c.requires.plain (bound c.args.params.now) c.in_ok-rows.rows.items (λ clean. c.in_ok-rows.ensures.rows clean);
  crash = λ runs has. asked_survives g.S.Store c.args.conn.now c.execute_query.new.conn runs has (λ k. omega (arith, k, c.execute_query.ensures.survives.clean)) c.args.sql.now c.requires.plain (bound c.args.params.now) c.execute_query.ensures.survives;
}

pub returns-clause-looked : goal.returns-clause-looked
returns-clause-looked g c = record {
  stands = λ runs has. asked_stands g.S.Store c.args.conn.now c.execute_query.new.conn runs has (λ k. omega (arith, k, c.execute_query.ensures.survives.clean)) c.args.sql.now c.requires.plain (bound c.args.params.now) c.in_ok-rows.rows.items (λ clean. c.in_ok-rows.ensures.rows clean);
  crash = λ runs has. asked_survives g.S.Store c.args.conn.now c.execute_query.new.conn runs has (λ k. omega (arith, k, c.execute_query.ensures.survives.clean)) c.args.sql.now c.requires.plain (bound c.args.params.now) c.execute_query.ensures.survives;
}
