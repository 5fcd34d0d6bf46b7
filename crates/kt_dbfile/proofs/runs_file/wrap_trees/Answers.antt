use Rattle.kt_dbfile.proofs.Common.{clean_if_open}
use Rattle.kt_dbfile.proofs.EndLemmas.{settled_by}
use Rattle.kt_dbfile.proofs.runs_file.wrap_trees.Goals as goal

pub invariant_of-result : goal.invariant_of-result
invariant_of-result g c = record {
  settled = c.requires.settled;
  sound = λ opened.
      let v = g.S.Store.view c.args.trees.store in
      let clean = clean_if_open v (g.met.S.Store.shut_if_dirty c.args.trees.store) opened in
      let it = c.in-Ok.ensures clean in
      settled_by v c.in-Ok.schema (c.requires.settled clean it.0) it.1 c.requires.sound opened;
}
