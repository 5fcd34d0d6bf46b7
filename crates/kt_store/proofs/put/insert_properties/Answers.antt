use Rattle.kt_store.proofs.Common.{arith, drop, pair_statement, pair_statements, rules, subst, suc, ◌+◌, ◌∷◌, ◌≡◌}
use Rattle.kt_store.proofs.CommitLemmas.{SoFar, one_done, pairs_at}
use Rattle.kt_store.proofs.put.insert_properties.Goals as goal

pub loop-pair-preserved : goal.loop-pair-preserved
loop-pair-preserved g c =
    let i = c.loop-pair.pair-index in
    let vs = c.args.pairs.now in
    let statement = pair_statement c.args.run c.args.position i c.pair-item.result in
    let all = pair_statements c.args.run c.args.position 0 vs in
    let rest = pair_statements c.args.run c.args.position (suc i) (drop (suc i) vs) in
    let so_far : SoFar g.S.Store all (statement ∷ rest) c.args.tx.now.conn.now c.loop-pair.tx.conn.now =
    subst (λ l. SoFar g.S.Store all l c.args.tx.now.conn.now c.loop-pair.tx.conn.now) (pairs_at c.args.run c.args.position i i vs c.pair-item.result c.loop-pair-test.true c.pair-item.is) c.loop-pair.invariant.2 in
    let more = one_done g.S.Store all rest statement c.args.tx.now.conn.now c.loop-pair.tx.conn.now c.insert_property.new.tx.conn.now so_far c.insert_property.ensures.uncommitted
    (λ clean inside. rw c.loop-pair.invariant.0 at (c.in_ok-insert_property.ensures.runs clean inside)) in
    let next : suc i ≡ i + 1 = omega arith in
    (omega (arith, c.loop-pair.invariant.0), search rules, subst (λ j. SoFar g.S.Store all (pair_statements c.args.run c.args.position j (drop j vs)) c.args.tx.now.conn.now c.insert_property.new.tx.conn.now) next more)
