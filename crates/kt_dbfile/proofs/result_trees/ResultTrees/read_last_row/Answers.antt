use Rattle.kt_dbfile.proofs.Common.{Backward, IsClean, OnlyMovesCursors, View, [], arith, plain, rules, sought, subst, with_cursor, ◌≡◌}
use Rattle.sqlite_trees.specs.declared.store.Shape.TheVariants.{Table}
use Rattle.kt_dbfile.proofs.PlaceLemmas.{sought_none, sought_one}
use Rattle.kt_dbfile.proofs.result_trees.ResultTrees.read_last_row.Given.{Over}
use Rattle.kt_dbfile.proofs.result_trees.ResultTrees.read_last_row.Goals.{In_ok-next}
use Rattle.kt_dbfile.proofs.result_trees.ResultTrees.read_last_row.Goals as goal

-- a cursor was set to the end of the table, and nothing else moved
sought_last : (g : Over) (c : In_ok-next g) → IsClean (g.S.Store.view c.next.new.self) → let old = g.S.Store.view c.args.self.now.store in let mid = g.S.Store.view c.seek.new.self in let new = g.S.Store.view c.next.new.self in (mid ≡ with_cursor old 0 (sought plain Backward [] (old.trees c.args.tree))) × OnlyMovesCursors old new
sought_last g c clean =
    let falls = c.next.ensures.quiet.clean in
    let early : IsClean (g.S.Store.view c.seek.new.self) = omega arith in
    let new = g.S.Store.view c.next.new.self in
    let shape : (g.S.Store.view c.args.self.now.store).shape c.args.tree ≡ Table = search rules in
    let moved = c.in_ok-seek.ensures.ok early in
    (rw (shape, c.new-row.ensures) at moved, (c.in_ok-seek.ensures.sound early, subst (λ (v : View). new ≡ record v { cursors = new.cursors }) moved (c.in_ok-next.ensures.moves clean).same))

pub returns-then-not-branch-clause-last : goal.returns-then-not-branch-clause-last
returns-then-not-branch-clause-last g c clean =
    let it = sought_last g (goal.at.returns-then-not-branch-clause-last g c).In_ok-next clean in
    sought_none (g.S.Store.view c.args.self.now.store) (g.S.Store.view c.seek.new.self) (g.S.Store.view c.next.new.self) ((g.S.Store.view c.args.self.now.store).trees c.args.tree) c.next.new.row it.0 (rw c.if-not-branch.true at (c.in_ok-next.ensures.ok clean))

pub returns-clause-last : goal.returns-clause-last
returns-clause-last g c clean =
    let it = sought_last g (goal.at.returns-clause-last g c).In_ok-next clean in
    sought_one (g.S.Store.view c.args.self.now.store) (g.S.Store.view c.seek.new.self) (g.S.Store.view c.next.new.self) ((g.S.Store.view c.args.self.now.store).trees c.args.tree) c.next.new.row it.0 (rw c.if-not-branch.false at (c.in_ok-next.ensures.ok clean))

pub returns-then-not-branch-clause-looks : goal.returns-then-not-branch-clause-looks
returns-then-not-branch-clause-looks g c = (search rules, λ clean. (sought_last g (goal.at.returns-then-not-branch-clause-looks g c).In_ok-next clean).1)

pub returns-clause-looks : goal.returns-clause-looks
returns-clause-looks g c = (search rules, λ clean. (sought_last g (goal.at.returns-clause-looks g c).In_ok-next clean).1)
