use Rattle.kt_dbfile.proofs.Common.{Chosen, IsClean, PutsRows, Trees, View, [], ap, arith, new_run_row, rules, subst, ◌∷◌}
use Rattle.kt_dbfile.proofs.EditLemmas.{run_made}
use Rattle.kt_dbfile.proofs.SeenLemmas.{held_then}
use Rattle.kt_dbfile.proofs.result_trees.ResultTrees.write_run.Goals as goal

pub returns : goal.returns
returns g c = record {
  clean = λ clean. c.find_next_number.ensures.looks.0.clean (omega (arith, clean, c.put_rows.ensures.quiet.clean));
  held = λ clean. held_then (g.S.Store.view c.args.self.now.store) (g.S.Store.view c.find_next_number.new.self.store) (g.S.Store.view c.put_rows.new.self.store) (c.find_next_number.ensures.looks.0.held (omega (arith, clean, c.put_rows.ensures.quiet.clean))) (c.put_rows.ensures.held clean);
  outcomes = λ db found. c.find_next_number.ensures.looks.0.outcomes db (c.put_rows.ensures.quiet.outcomes db found);
  obeys = c.in_ok-put_rows.ensures.obeys;
  agrees = search rules;
  rows = λ runs has clean.
      let early : IsClean (g.S.Store.view c.find_next_number.new.self.store) = omega (arith, clean, c.put_rows.ensures.quiet.clean) in
      let through = c.in_ok-number.ensures.looks.1 early in
      let was = c.find_next_number.ensures.looks.0.clean early in
      let trees = ap (λ (v : View). v.trees) through.1 in
      let keeps = has was through.0 in
      let sound = c.requires.sound was through.0 in
      let puts = subst (λ (t : Trees). PutsRows c.args.schema.now 1 [] Chosen 0 (new_run_row c.args.total c.args.moment ∷ []) t (g.S.Store.view c.put_rows.new.self.store).trees) trees
      (rw (c.from_ref.ensures.value, c.in_ok-row.ensures, c.int_value.ensures, c.int_value-2.ensures, c.from.ensures, c.int_value-3.ensures) at (c.in_ok-put_rows.ensures.puts clean)) in
      run_made c.args.schema.now runs (g.S.Store.view c.args.self.now.store).trees _ sound (c.in_ok-put_rows.ensures.obeys clean).sound keeps c.args.total c.args.moment (c.in_ok-number.ensures.number runs has early).1 (omega arith) puts;
}
