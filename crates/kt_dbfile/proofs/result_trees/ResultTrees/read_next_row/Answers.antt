use Rattle.kt_dbfile.proofs.Common.{OnlyReadsStore, View, refl, subst, sym, ◌≡◌}
use Rattle.kt_dbfile.proofs.SeenLemmas.{looked, looks_then}
use Rattle.kt_dbfile.proofs.result_trees.ResultTrees.read_next_row.Given.{Over}
use Rattle.kt_dbfile.proofs.result_trees.ResultTrees.read_next_row.Goals.{In_ok-get}
use Rattle.kt_dbfile.proofs.result_trees.ResultTrees.read_next_row.Goals as goal

-- moving a cursor and reading a row only reads the store
only_looks : (g : Over) (c : In_ok-get g) → OnlyReadsStore g.S.Store c.args.self.now.store c.get.new.self
only_looks g c =
    let old = g.S.Store.view c.next.new.self in
    looks_then g.S.Store _ _ _ (looked g.S.Store _ _ c.next.ensures.quiet c.next.ensures.schema (λ clean. (c.in_ok-next.ensures.moves clean).same))
    (looked g.S.Store _ _ c.get.ensures.quiet c.get.ensures.schema (λ clean. subst (λ (v : View). v ≡ record old { cursors = v.cursors }) (sym (c.in_ok-get.ensures.same clean)) refl))

pub returns-then-ne-clause-looks : goal.returns-then-ne-clause-looks
returns-then-ne-clause-looks g c = only_looks g (goal.at.returns-then-ne-clause-looks g c).In_ok-get

pub returns-clause-looks : goal.returns-clause-looks
returns-clause-looks g c = only_looks g (goal.at.returns-clause-looks g c).In_ok-get
