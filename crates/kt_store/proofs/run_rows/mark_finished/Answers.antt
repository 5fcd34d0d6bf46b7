use Rattle.kt_store.proofs.Common.{IsSchema2Of, arith, finish, on_ok_weaker, state, survives_weaker}
use Rattle.kt_store.proofs.FaultLemmas.{ok_later}
use Rattle.kt_store.proofs.BeginLemmas.{leaves_commit}
use Rattle.kt_store.proofs.CloseLemmas.{executed_finish, crash_finish}
use Rattle.kt_store.proofs.SqlFacts.{finish_is}
use Rattle.kt_store.proofs.run_rows.mark_finished.Goals as goal

pub execute-requires : goal.execute-requires
execute-requires g c = finish_is.1

pub returns-clause-marked : goal.returns-clause-marked
returns-clause-marked g c = on_ok_weaker c.execute.result (λ told. record {
  stands = λ runs has closes clean opened.
      (executed_finish g.S.Store c.args.conn.now c.execute.new.conn runs c.args.run has (λ k. omega (arith, k, c.execute.ensures.survives.clean)) closes clean (rw (c.int_value.ensures, c.from.ensures) at (told clean))).0;
  lasts = λ runs has closes clean.
      let done = executed_finish g.S.Store c.args.conn.now c.execute.new.conn runs c.args.run has (λ k. omega (arith, k, c.execute.ensures.survives.clean)) closes clean (rw (c.int_value.ensures, c.from.ensures) at (told clean)) in
      leaves_commit g.S.Store c.execute.new.conn (finish c.args.run runs) (λ db opened may. g.met.S.Store.settled c.execute.new.conn.store db opened may) done.1 done.0 done.2 clean;
}) (ok_later _ c.execute.result c.execute.ensures.executed)

pub returns-clause-crash : goal.returns-clause-crash
returns-clause-crash g c runs has closes =
    survives_weaker (state g.S.Store c.args.conn.now) (state g.S.Store c.execute.new.conn) _ (IsSchema2Of (finish c.args.run runs))
    (crash_finish g.S.Store c.args.conn.now c.execute.new.conn runs c.args.run has (λ k. omega (arith, k, c.execute.ensures.survives.clean)) closes)
    (rw (c.int_value.ensures, c.from.ensures) at c.execute.ensures.survives)
