use Rattle.kt_dbfile.proofs.Common.{Some, ap, arith, head_of, option_map, subst, sym, to_z_pos, true, w64, ℤ, ◌∙◌}
use Rattle.sqlite_trees.specs.View.{IsClean, Finds}
use Rattle.kt_store.proofs.OutputsLemmas.{same_run}
use Rattle.kt_dbfile.proofs.SeenLemmas.{rows_of_runs, there_is}
use Rattle.kt_dbfile.proofs.result_trees.ResultTrees.require_head.Goals as goal

pub returns-clause-head : goal.returns-clause-head
returns-clause-head g c runs has clean =
    let first = subst IsClean (c.in_ok-get.ensures.same clean) clean in
    let sound = c.in_ok-get.ensures.sound clean in
    let keeps = has first sound in
    let are = rows_of_runs runs _ keeps in
    let n = c.run_key-key.result in
    let one = subst (λ (id : ℤ). Finds ((g.S.Store.view c.args.self.now.store).trees 2) id c.get.new.row true) (to_z_pos w64 n (omega (arith, c.run_key-key.ensures.low))) (rw c.in_ok-ensure_sound-2.ensures.sound at (c.in_ok-get.ensures.ok clean)) in
    let found = there_is runs n _ c.get.new.row keeps.3.valid.numbered are one in
    ap Some (c.in_ok-head.ensures.head found.0 found.2) ∙ ap (option_map head_of) (sym found.1 ∙ same_run runs c.args.number n keeps.3.valid.few c.run_key-key.ensures.same c.run_key-key.ensures.none)
