use Rattle.kt_dbfile.proofs.Common.{not-true, sym, ◌∙◌}
use Rattle.kt_dbfile.proofs.result_trees.ResultTrees.load_results_schema.Goals as goal

pub returns : goal.returns
returns g c clean = (sym (c.is_broken.ensures clean) ∙ not-true c.is_broken.result c.in_ok-ensure_sound.ensures.sound, rw c.in_ok-schema.ensures.there at (c.in_ok-load_schema.ensures clean))
