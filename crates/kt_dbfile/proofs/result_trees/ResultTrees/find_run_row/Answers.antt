use Rattle.kt_dbfile.proofs.Common.{None, ap, arith, false, inr, refl, run_at, subst, sym, to_z_pos, true, w64, ℤ, ◌∙◌, ◌≡◌}
use Rattle.sqlite_trees.specs.View.{IsClean, Finds}
use Rattle.kt_store.proofs.OutputsLemmas.{no_run, past_run}
use Rattle.kt_dbfile.proofs.SeenLemmas.{rows_of_runs, there_is, there_is_none}
use Rattle.kt_dbfile.proofs.result_trees.ResultTrees.find_run_row.Goals.{then-not-branch-via-then-not-branch, then-not-branch-via-else-not-branch+then-from-run}
use Rattle.kt_dbfile.proofs.result_trees.ResultTrees.find_run_row.Goals as goal

pub returns-then-not-branch-clause-refused : goal.returns-then-not-branch-clause-refused
returns-then-not-branch-clause-refused g c runs has clean =
    let first = subst IsClean (c.in_ok-get.ensures.same clean) clean in
    let sound = c.in_ok-get.ensures.sound clean in
    let keeps = has first sound in
    let are = rows_of_runs runs _ keeps in
    let n = c.run_key-number.result in
    let id = to_z_pos w64 n (omega (arith, c.run_key-number.ensures.low)) in
    inr (
      refl,
      elim c.then-not-branch.branch [
        | then-not-branch-via-then-not-branch w ↦
            let none = subst (λ (id : ℤ). Finds ((g.S.Store.view c.args.self.now.store).trees 2) id c.get.new.row false) id (rw w.if-not-branch.true at (c.in_ok-get.ensures.ok clean)) in
            no_run (λ o. o ≡ None) refl runs c.args.run n keeps.3.valid.few c.run_key-number.ensures.same (there_is_none runs n _ c.get.new.row keeps.3.valid.numbered are none)
        | then-not-branch-via-else-not-branch+then-from-run w ↦ past_run runs c.args.run n keeps.3.valid.few c.run_key-number.ensures.same (rw w.from.ensures at w.if-from-run.true)
      ],
    )

pub returns-clause-found : goal.returns-clause-found
returns-clause-found g c runs has clean =
    let first = subst IsClean (c.in_ok-get.ensures.same clean) clean in
    let sound = c.in_ok-get.ensures.sound clean in
    let keeps = has first sound in
    let are = rows_of_runs runs _ keeps in
    let n = c.run_key-number.result in
    let one = subst (λ (id : ℤ). Finds ((g.S.Store.view c.args.self.now.store).trees 2) id c.get.new.row true) (to_z_pos w64 n (omega (arith, c.run_key-number.ensures.low))) (rw c.if-not-branch.false at (c.in_ok-get.ensures.ok clean)) in
    let found = there_is runs n _ c.get.new.row keeps.3.valid.numbered are one in
    (found.0, ap (run_at runs) (sym (sym c.from.ensures ∙ c.if-from-run.false)) ∙ found.1, found.2, keeps.3.valid)
