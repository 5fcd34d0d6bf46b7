use Rattle.kt_dbfile.proofs.SeenLemmas.{looks_then}
use Rattle.kt_dbfile.proofs.result_trees.ResultTrees.count_properties.Goals as goal

pub returns-in_err-count_rows_by_key : goal.returns-in_err-count_rows_by_key
returns-in_err-count_rows_by_key g c = record { looks = looks_then g.S.Store _ _ _ c.loop-entry.invariant c.count_rows_by_key.ensures.looks.0 }

pub loop-entry-preserved : goal.loop-entry-preserved
loop-entry-preserved g c = looks_then g.S.Store _ _ _ c.loop-entry.invariant c.count_rows_by_key.ensures.looks.0
