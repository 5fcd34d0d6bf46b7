use Rattle.kt_dbfile.proofs.Common.{Int, IsClean, IsShaped, OnlyReadsStore, Row, Trees, View, [], all-append, ap, arith, column, filter, has_rowid, length-map, rules, subst, ℤ, ◌++◌, ◌∷◌, ◌≡◌}
use Rattle.kt_dbfile.proofs.SeenLemmas.{looks_then}
use Rattle.kt_dbfile.proofs.PlaceLemmas as lemma
use Rattle.kt_dbfile.proofs.result_trees.ResultTrees.read_rows_by_key.Given.{Over}
use Rattle.kt_dbfile.proofs.result_trees.ResultTrees.read_rows_by_key.Goals.{After-read_next_row}
use Rattle.kt_dbfile.proofs.result_trees.ResultTrees.read_rows_by_key.Goals as goal

-- a store that was only read up to the call of `read_next_row` was only read up to its return
only_looks : (g : Over) (c : After-read_next_row g) → OnlyReadsStore g.S.Store c.args.self.now.store c.read_next_row.new.self.store
only_looks g c = looks_then g.S.Store _ _ _ c.places.invariant.2 c.read_next_row.ensures.looks

pub returns-in_err-read_next_row-clause-looks : goal.returns-in_err-read_next_row-clause-looks
returns-in_err-read_next_row-clause-looks g c = only_looks g (goal.at.returns-in_err-read_next_row-clause-looks g c).After-read_next_row

pub returns-then-not-branch-clause-looks : goal.returns-then-not-branch-clause-looks
returns-then-not-branch-clause-looks g c = only_looks g (goal.at.returns-then-not-branch-clause-looks g c).After-read_next_row

pub returns-in_err-selected-clause-looks : goal.returns-in_err-selected-clause-looks
returns-in_err-selected-clause-looks g c = only_looks g (goal.at.returns-in_err-selected-clause-looks g c).After-read_next_row

pub returns-in_err-push_item-clause-looks : goal.returns-in_err-push_item-clause-looks
returns-in_err-push_item-clause-looks g c = only_looks g (goal.at.returns-in_err-push_item-clause-looks g c).After-read_next_row

pub returns-then-not-branch-clause-all : goal.returns-then-not-branch-clause-all
returns-then-not-branch-clause-all g c clean cs mine has =
    let old = g.S.Store.view c.args.self.now.store in
    let early : IsClean (g.S.Store.view c.places.self.store) = c.read_next_row.ensures.looks.clean clean in
    let order = g.met.S.Store.ordered c.args.self.now.store (c.places.invariant.5 early) in
    let table = c.args.table.now in
    let p = has (subst (λ s. IsShaped s (old.trees table.tree)) (c.has_expected_shapes.ensures.table (search rules)) (order table.tree)) (subst (λ s. IsShaped s (old.trees table.index)) (c.has_expected_shapes.ensures.index (search rules)) (order table.index)) in
    lemma.halfway_end c.args.columns.now cs c.args.key.now mine _ _ p _ c.places.rows.items (c.places.invariant.3 early cs mine p) (rw c.if-not-branch.true at (c.in_ok-read_next_row.ensures.goes clean))

pub places-preserved : goal.places-preserved
places-preserved g c = (
  search rules,
  search rules,
  only_looks g (goal.at.places-preserved g c).After-read_next_row,
  λ clean cs mine p.
      let early : IsClean (g.S.Store.view c.places.self.store) = c.read_next_row.ensures.looks.clean clean in
      let goes = rw c.if-not-branch.false at (c.in_ok-read_next_row.ensures.goes clean) in
      let trees = ap (λ (v : View). v.trees) (c.places.invariant.1 early) in
      let reads = λ (front : Row) (id : ℤ) (is : c.read_next_row.new.place ≡ front ++ Int id ∷ []). subst (λ (t : Trees). filter (has_rowid id) (t c.args.table.now.tree) ≡ c.read_next_row.new.row ∷ []) trees (goes.2 front id is) in
      let stepped = lemma.halfway_step c.args.columns.now cs c.args.key.now mine _ _ p c.read_next_row.new.place c.read_next_row.new.row _ goes.1 reads _ c.places.rows.items (c.places.invariant.3 early cs mine p) goes.0 in
      rw (c.in_ok-push_item.ensures.added, c.in_ok-selected.ensures) stepped,
  rw (c.in_ok-push_item.ensures.added, c.in_ok-selected.ensures) (all-append _ c.places.rows.items _ c.places.invariant.4 (omega (arith, length-map c.args.columns.now (column c.read_next_row.new.row)), tt)),
  search rules,
  search rules,
)
