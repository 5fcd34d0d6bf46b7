use Rattle.kt_store.proofs.Common.{AllByRecursion, IsSchema2Statement, List, [], arith, drop, get_or, length, map, plain_statements, subst, suc, zero, ℕ, ◌+◌, ◌<◌, ◌∙◌, ◌∷◌}
use Rattle.kt_store.proofs.CommitLemmas.{SoFar, one_done, texts_at}
use Rattle.kt_store.proofs.batch.SqlTextsBatch.execute_statements.Goals as goal

each_is : {T : Type 0} (see : T → List ℕ) (i : ℕ) (vs : List T) (d : T) → AllByRecursion IsSchema2Statement (map see vs) → i < length vs → IsSchema2Statement (see (get_or vs i d))
each_is see i [] d all low = absurd (omega (arith, low))
each_is see zero (v ∷ vs) d all low = all.0
each_is see (suc i) (v ∷ vs) d all low = each_is see i vs d all.1 (omega (arith, low))

pub execute_in_transaction-requires : goal.execute_in_transaction-requires
execute_in_transaction-requires g c = each_is (λ sql. sql.now) c.loop-text.text-index c.args.self.now.texts.now _ c.requires c.loop-text-test.true

pub loop-text-preserved : goal.loop-text-preserved
loop-text-preserved g c =
    let i = c.loop-text.text-index in
    let vs = c.args.self.now.texts.now in
    let all = plain_statements (map (λ sql. sql.now) vs) in
    let rest = plain_statements (map (λ sql. sql.now) (drop (i + 1) vs)) in
    let so_far = subst (λ l. SoFar g.S.Store all l c.args.tx.now.conn.now c.loop-text.tx.conn.now) (texts_at (λ sql. sql.now) i vs _ c.loop-text-test.true) c.loop-text.invariant.1 in (
      c.execute_in_transaction.ensures.same_reference ∙ c.loop-text.invariant.0,
      one_done g.S.Store all rest (_, [], []) c.args.tx.now.conn.now c.loop-text.tx.conn.now c.execute_in_transaction.new.tx.conn.now so_far c.execute_in_transaction.ensures.uncommitted (λ clean inside. c.in_ok-execute_in_transaction.ensures.runs clean inside),
    )
