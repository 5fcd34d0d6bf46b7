use Rattle.kt_store.proofs.Common.{rules}
use Rattle.kt_store.proofs.CommitLemmas.{step_keeps}
use Rattle.kt_store.proofs.statements.execute_in_transaction.Goals as goal

pub returns-in_err-execute-clause-uncommitted : goal.returns-in_err-execute-clause-uncommitted
returns-in_err-execute-clause-uncommitted g c = record {
  keeps = λ clean. step_keeps g.S.Store c.args.tx.now.conn.now c.execute.new.self.conn.now c.args.sql.now _ c.execute.result (c.execute.ensures.runs clean) (λ outside. (c.execute.ensures.ended outside).1);
  survives = search rules;
}
