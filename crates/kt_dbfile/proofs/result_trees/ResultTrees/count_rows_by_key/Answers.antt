use Rattle.kt_dbfile.proofs.Common.{AllByRecursion, CountsUnderKey, IsClean, IsShaped, List, OnlyReadsStore, Row, View, ap, arith, has_prefix, false, left_of, rules, subst, sym, take, true, ◌∙◌, ◌≡◌}
use Rattle.sqlite_exec.proofs.CheckLemmas.{ended, stepped}
use Rattle.kt_dbfile.proofs.SeenLemmas.{looks_then}
use Rattle.kt_dbfile.proofs.PlaceLemmas.{passed_all, passed_one}
use Rattle.kt_dbfile.proofs.result_trees.ResultTrees.count_rows_by_key.Given.{Over}
use Rattle.kt_dbfile.proofs.result_trees.ResultTrees.count_rows_by_key.Goals.{In_ok-next}
use Rattle.kt_dbfile.proofs.result_trees.ResultTrees.count_rows_by_key.Goals as goal

-- the entries counted so far are all under the key, if the next one doesn't begin with the key
all_counted : (g : Over) (c : In_ok-next g) → IsClean (g.S.Store.view c.next.new.self) → AllByRecursion (λ e. has_prefix c.args.key.now e ≡ false) (take 1 (left_of (g.S.Store.view c.places.self.store) 0))
    → CountsUnderKey c.args.table.now.tree c.args.table.now.index c.args.key.now (g.S.Store.view c.args.self.now.store).trees c.places.count
all_counted g c clean none cs mine has =
    let old = g.S.Store.view c.args.self.now.store in
    let mid = g.S.Store.view c.places.self.store in
    let falls = c.next.ensures.quiet.clean in
    let early : IsClean mid = omega arith in
    let order = g.met.S.Store.ordered c.args.self.now.store (c.places.invariant.2 early).0 in
    let table = c.args.table.now in
    let p = has (subst (λ s. IsShaped s (old.trees table.tree)) (c.has_expected_shapes.ensures.table (search rules)) (order table.tree)) (subst (λ s. IsShaped s (old.trees table.index)) (c.has_expected_shapes.ensures.index (search rules)) (order table.index)) in
    passed_all c.args.key.now cs mine (old.trees table.tree) (old.trees table.index) (left_of mid 0) c.places.count p (c.places.invariant.3 early) none

pub returns-then-not-branch-clause-counted : goal.returns-then-not-branch-clause-counted
returns-then-not-branch-clause-counted g c clean =
    let none = ended (g.S.Store.view c.places.self.store) (g.S.Store.view c.next.new.self) 0 c.next.new.row (rw c.if-not-branch.true at (c.in_ok-next.ensures.ok clean)) in
    all_counted g (goal.at.returns-then-not-branch-clause-counted g c).In_ok-next clean (subst (λ (l : List Row). AllByRecursion (λ e. has_prefix c.args.key.now e ≡ false) (take 1 l)) (sym none) tt)

pub returns-then-ne-clause-counted : goal.returns-then-ne-clause-counted
returns-then-ne-clause-counted g c clean =
    let one = stepped (g.S.Store.view c.places.self.store) (g.S.Store.view c.next.new.self) 0 c.next.new.row (rw c.if-not-branch.false at (c.in_ok-next.ensures.ok clean)) in
    let past : has_prefix c.args.key.now c.next.new.row ≡ false = search rules in
    all_counted g (goal.at.returns-then-ne-clause-counted g c).In_ok-next clean (subst (λ (l : List Row). AllByRecursion (λ e. has_prefix c.args.key.now e ≡ false) (take 1 l)) (sym one) (past, tt))

pub places-preserved : goal.places-preserved
places-preserved g c =
    let mid = g.S.Store.view c.places.self.store in
    let new = g.S.Store.view c.next.new.self in
    let step : OnlyReadsStore g.S.Store c.places.self.store c.next.new.self = search rules in
    let hit : has_prefix c.args.key.now c.next.new.row ≡ true = search rules in (
      search rules,
      looks_then g.S.Store _ _ _ c.places.invariant.1 step,
      λ clean.
          let was = c.places.invariant.2 (step.clean clean) in
          (was.0, (c.in_ok-next.ensures.moves clean).same ∙ ap (λ (v : View). record v { cursors = new.cursors }) was.1),
      λ clean.
          let one = stepped mid new 0 c.next.new.row (rw c.if-not-branch.false at (c.in_ok-next.ensures.ok clean)) in
          passed_one c.args.key.now c.next.new.row _ (left_of mid 0) (left_of new 0) c.places.count one hit (c.places.invariant.3 (step.clean clean)),
    )
