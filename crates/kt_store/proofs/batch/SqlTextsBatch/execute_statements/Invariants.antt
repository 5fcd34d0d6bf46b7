use Rattle.kt_store.proofs.Common.{drop, map, plain_statements, ◌≡◌}
use Rattle.kt_store.proofs.CommitLemmas.{SoFar}
use Rattle.kt_store.proofs.batch.SqlTextsBatch.execute_statements.Given as goal

abbrev pub invariant-loop-text : goal.invariant-loop-text
invariant-loop-text g l =
    (l.tx.conn.ghost_name ≡ l.initial.tx.conn.ghost_name)
    × SoFar g.S.Store (plain_statements (map (λ sql. sql.now) l.self.texts.now)) (plain_statements (map (λ sql. sql.now) (drop l.text-index l.self.texts.now))) l.initial.tx.conn.now l.tx.conn.now
