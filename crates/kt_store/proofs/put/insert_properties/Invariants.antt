use Rattle.kt_store.proofs.Common.{drop, pair_statements, ◌≡◌}
use Rattle.kt_store.proofs.CommitLemmas.{SoFar}
use Rattle.kt_store.proofs.put.insert_properties.Given as goal

abbrev pub invariant-loop-pair : goal.invariant-loop-pair
invariant-loop-pair g l =
    (l.place ≡ l.pair-index) × (l.tx.conn.ghost_name ≡ l.initial.tx.conn.ghost_name)
    × SoFar g.S.Store (pair_statements l.run l.position 0 l.pairs) (pair_statements l.run l.position l.pair-index (drop l.pair-index l.pairs)) l.initial.tx.conn.now l.tx.conn.now
