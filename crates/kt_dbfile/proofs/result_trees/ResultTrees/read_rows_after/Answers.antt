use Rattle.kt_dbfile.proofs.Common.{OnlyReadsStore, SelectsUnderKey, Trees, View, ap, rules, subst}
use Rattle.kt_store.proofs.FaultLemmas.{if_both}
use Rattle.kt_dbfile.proofs.result_trees.ResultTrees.read_rows_after.Goals as goal

pub returns-clause-all : goal.returns-clause-all
returns-clause-all g c =
    let looks : OnlyReadsStore g.S.Store c.args.self.now.store c.read_next_row.new.self.store = search rules in
    let table = c.args.table.now in
    if_both _ _ _ c.read_rows_by_key.result (λ rows all sound clean.
    let same = looks.same (c.read_rows_by_key.ensures.looks.clean clean) (sound clean) in
    subst (λ (t : Trees). SelectsUnderKey table.tree table.index c.args.key.now c.args.columns.now t rows.items) (ap (λ (v : View). v.trees) same) (all clean)) c.read_rows_by_key.ensures.all c.read_rows_by_key.ensures.sound
