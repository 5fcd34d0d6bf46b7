use Rattle.kt_dbfile.proofs.Common.{WritesEntryRows, IsClean, Trees, View, ap, arith, subst}
use Rattle.kt_dbfile.proofs.EditLemmas.{entry_filled}
use Rattle.kt_dbfile.proofs.SeenLemmas.{held_then}
use Rattle.kt_dbfile.proofs.result_trees.ResultTrees.write_entry.Goals as goal

pub returns : goal.returns
returns g c = record {
  clean = λ clean. c.check_can_put.ensures.looks.0.clean (omega (arith, clean, c.put_rows.ensures.quiet.clean, c.put_rows-2.ensures.quiet.clean));
  held = λ clean.
      let mid : IsClean (g.S.Store.view c.put_rows.new.self.store) = omega (arith, clean, c.put_rows-2.ensures.quiet.clean) in
      let first = g.S.Store.view c.args.self.now.store in
      let at = g.S.Store.view c.put_rows.new.self.store in
      held_then first at (g.S.Store.view c.put_rows-2.new.self.store)
      (held_then first (g.S.Store.view c.check_can_put.new.self.store) at (c.check_can_put.ensures.looks.0.held (omega (arith, mid, c.put_rows.ensures.quiet.clean))) (c.put_rows.ensures.held mid)) (c.put_rows-2.ensures.held clean);
  outcomes = λ db found. c.check_can_put.ensures.looks.0.outcomes db (c.put_rows.ensures.quiet.outcomes db (c.put_rows-2.ensures.quiet.outcomes db found));
  obeys = c.in_ok-put_rows-2.ensures.obeys;
  agrees = λ runs has clean.
      let early : IsClean (g.S.Store.view c.check_can_put.new.self.store) = omega (arith, clean, c.put_rows.ensures.quiet.clean, c.put_rows-2.ensures.quiet.clean) in
      (c.in_ok-check_can_put.ensures.accepted runs has early c.in_ok-reason.ensures.passed).0;
  rows = λ runs has clean.
      let mid : IsClean (g.S.Store.view c.put_rows.new.self.store) = omega (arith, clean, c.put_rows-2.ensures.quiet.clean) in
      let early : IsClean (g.S.Store.view c.check_can_put.new.self.store) = omega (arith, mid, c.put_rows.ensures.quiet.clean) in
      let through = c.in_ok-check_can_put.ensures.looks.1 early in
      let was = c.check_can_put.ensures.looks.0.clean early in
      let trees = ap (λ (v : View). v.trees) through.1 in
      let number = c.run_key-number.ensures.same c.in_ok-check_can_put.ensures.small in
      let texts = c.in_ok-row.ensures.texts in
      let pairs = rw c.as_slice-meta.ensures at c.in_ok-pairs.ensures.texts in
      let fills = subst (λ (t : Trees). WritesEntryRows c.args.schema.now c.args.run c.args.entry.now t (g.S.Store.view c.put_rows-2.new.self.store).trees) trees (
        (texts.0, texts.1, texts.2, pairs),
        (
          (g.S.Store.view c.put_rows.new.self.store).trees,
          rw (c.from_ref.ensures.value, c.in_ok-row.ensures.row, number) at (c.in_ok-put_rows.ensures.puts mid),
          rw (c.as_slice.ensures.value, c.in_ok-pairs.ensures.rows, c.as_slice-meta.ensures, number) at (c.in_ok-put_rows-2.ensures.puts clean),
        ),
      ) in
      entry_filled c.args.schema.now runs (g.S.Store.view c.args.self.now.store).trees _ (c.requires.sound was through.0) (c.in_ok-put_rows-2.ensures.obeys clean).sound (has was through.0) c.args.run c.args.entry.now
      (c.in_ok-check_can_put.ensures.accepted runs has early c.in_ok-reason.ensures.passed).1 fills;
}
