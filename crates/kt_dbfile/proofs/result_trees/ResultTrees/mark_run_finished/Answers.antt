use Rattle.kt_dbfile.proofs.Common.{IsClean, View, [], ap, arith, finished_run_row, pos, sym, to_z_pos, w64, ℤ, ◌∙◌, ◌∷◌, ◌≡◌}
use Rattle.kt_dbfile.proofs.EditLemmas.{finished_by, number_is}
use Rattle.kt_dbfile.proofs.SeenLemmas.{held_then}
use Rattle.kt_dbfile.proofs.result_trees.ResultTrees.mark_run_finished.Goals as goal

pub returns : goal.returns
returns g c = record {
  clean = λ clean. c.check_can_finish.ensures.looks.0.clean (omega (arith, clean, c.put_rows.ensures.quiet.clean));
  held = λ clean. held_then (g.S.Store.view c.args.self.now.store) (g.S.Store.view c.check_can_finish.new.self.store) (g.S.Store.view c.put_rows.new.self.store) (c.check_can_finish.ensures.looks.0.held (omega (arith, clean, c.put_rows.ensures.quiet.clean))) (c.put_rows.ensures.held clean);
  outcomes = λ db found. c.check_can_finish.ensures.looks.0.outcomes db (c.put_rows.ensures.quiet.outcomes db found);
  obeys = c.in_ok-put_rows.ensures.obeys;
  agrees = λ runs has clean. (c.in_ok-row.ensures.accepted runs has (omega (arith, clean, c.put_rows.ensures.quiet.clean))).3;
  rows = λ runs has clean.
      let early : IsClean (g.S.Store.view c.check_can_finish.new.self.store) = omega (arith, clean, c.put_rows.ensures.quiet.clean) in
      let through = c.in_ok-row.ensures.looks.1 early in
      let was = c.check_can_finish.ensures.looks.0.clean early in
      let trees = ap (λ (v : View). v.trees) through.1 in
      let taken = c.in_ok-row.ensures.accepted runs has early in
      let r = taken.0 in
      let keeps = has was through.0 in
      let done : c.in_ok-done.done ≡ finished_run_row r = c.in_ok-done.ensures r taken.2 in
      let id = to_z_pos w64 c.run_key.result (omega (arith, c.run_key.ensures.low)) ∙ ap pos (c.run_key.ensures.same c.in_ok-row.ensures.small) in
      let ids = ap (λ (z : ℤ). z ∷ []) (id ∙ ap pos (sym (number_is c.args.run runs r keeps.3.valid.numbered taken.1))) in
      finished_by c.args.schema.now runs (g.S.Store.view c.args.self.now.store).trees (g.S.Store.view c.put_rows.new.self.store).trees (c.requires.sound was through.0) (c.in_ok-put_rows.ensures.obeys clean).sound keeps c.args.run r taken.1 taken.4 _ _ _ trees done ids (rw c.from_ref.ensures.value at (c.in_ok-put_rows.ensures.puts clean));
}
