use Rattle.kt_dbfile.proofs.Common.{Outline, ap, entries_of, map, outline_entry, refl, run_at, ◌∙◌}
use Rattle.kt_dbfile.proofs.SeenLemmas.{still_has, looks_then, looked_serves}
use Rattle.kt_dbfile.proofs.result_trees.ResultTrees.read_run_outline.Goals as goal

pub returns-clause-served : goal.returns-clause-served
returns-clause-served g c =
    let entries = looks_then g.S.Store _ _ _ c.find_run_head.ensures.looks.0 c.read_outlines.ensures.looks in
    looked_serves g.S.Store _ _ (looks_then g.S.Store _ _ _ entries c.check_entries.ensures.looks) (Outline c.args.run _) (λ runs. refl) (λ runs may left. left) (λ runs has late.
    let clean = c.check_entries.ensures.looks.clean late in
    let is = c.in_ok-head.ensures.found runs has (c.read_outlines.ensures.looks.clean clean) in (
      is.0,
      is.1,
      c.in_ok-found.ensures.all runs (still_has g.S.Store _ _ c.find_run_head.ensures.looks.0 runs has) clean ∙ ap (λ o. map outline_entry (entries_of o)) (ap (run_at runs) (c.run_key.ensures.same c.in_ok-head.ensures.small) ∙ is.1),
    ))
