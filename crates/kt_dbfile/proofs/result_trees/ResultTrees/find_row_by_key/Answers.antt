use Rattle.kt_dbfile.proofs.Common.{Int, IsClean, IsIndex, IsShaped, List, IndexesRows, Row, Shape, Trees, View, [], ap, filter, from_key, has_rowid, left_of, order_of, plain, rules, subst, sym, ℕ, ℤ, ◌++◌, ◌∙◌, ◌∷◌, ◌≡◌}
use Rattle.sqlite_trees.specs.declared.store.Shape.TheVariants.{Table}
use Rattle.kt_dbfile.proofs.PlaceLemmas as lemma
use Rattle.kt_dbfile.proofs.result_trees.ResultTrees.find_row_by_key.Given.{Over}
use Rattle.kt_dbfile.proofs.result_trees.ResultTrees.find_row_by_key.Goals.{In_ok-read_next_row}
use Rattle.kt_dbfile.proofs.result_trees.ResultTrees.find_row_by_key.Goals as goal

-- `IndexesRows` holds once the shapes do, and after the seek the cursor has the index entries from
-- the key on left
sought : (g : Over) (c : In_ok-read_next_row g) → IsClean (g.S.Store.view c.read_next_row.new.self.store) → let old = g.S.Store.view c.args.self.now.store in let table = c.args.table.now in
    ((cs : List ℕ) (mine : List Row) → (IsShaped Table (old.trees table.tree) → IsIndex plain (old.trees table.index) → IndexesRows cs c.args.key.now mine (old.trees table.tree) (old.trees table.index)) → IndexesRows cs c.args.key.now mine (old.trees table.tree) (old.trees table.index))
    × (left_of (g.S.Store.view c.seek.new.self) 0 ≡ from_key plain c.args.key.now (old.trees table.index))
sought g c clean =
    let old = g.S.Store.view c.args.self.now.store in
    let early : IsClean (g.S.Store.view c.seek.new.self) = c.read_next_row.ensures.looks.clean clean in
    let order = g.met.S.Store.ordered c.args.self.now.store (c.in_ok-seek.ensures.sound early) in
    let table = c.args.table.now in
    let index = c.has_expected_shapes.ensures.index (search rules) in (
      λ cs mine has. has (subst (λ s. IsShaped s (old.trees table.tree)) (c.has_expected_shapes.ensures.table (search rules)) (order table.tree)) (subst (λ s. IsShaped s (old.trees table.index)) index (order table.index)),
      ap (λ (v : View). left_of v 0) (c.in_ok-seek.ensures.ok early) ∙ ap (λ (s : Shape). from_key (order_of s) c.args.key.now (old.trees table.index)) index,
    )

pub returns-then-not-branch-clause-found : goal.returns-then-not-branch-clause-found
returns-then-not-branch-clause-found g c clean cs mine has =
    let it = sought g (goal.at.returns-then-not-branch-clause-found g c).In_ok-read_next_row clean in
    lemma.first_none [] cs c.args.key.now mine _ _ (it.0 cs mine has) (left_of (g.S.Store.view c.seek.new.self) 0) it.1 (rw c.if-not-branch.true at (c.in_ok-read_next_row.ensures.goes clean))

pub returns-clause-found : goal.returns-clause-found
returns-clause-found g c clean cs mine has =
    let it = sought g (goal.at.returns-clause-found g c).In_ok-read_next_row clean in
    let goes = rw c.if-not-branch.false at (c.in_ok-read_next_row.ensures.goes clean) in
    let trees = ap (λ (v : View). v.trees) (c.in_ok-seek.ensures.ok (c.read_next_row.ensures.looks.clean clean)) in
    let reads = λ (front : Row) (id : ℤ) (is : c.read_next_row.new.place ≡ front ++ Int id ∷ []). subst (λ (t : Trees). filter (has_rowid id) (t c.args.table.now.tree) ≡ c.read_next_row.new.row ∷ []) trees (goes.2 front id is) in
    lemma.first_row [] cs c.args.key.now mine _ _ (it.0 cs mine has) c.read_next_row.new.place c.read_next_row.new.row _ goes.1 reads (sym it.1 ∙ goes.0)
