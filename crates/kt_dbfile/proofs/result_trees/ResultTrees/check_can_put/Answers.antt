use Rattle.kt_dbfile.proofs.Common.{AreValidRuns, HasRuns, IfErr-weaker, IsClean, List, Run, RunHead, Some, ap, entries_of, has_position, head_of, inr, on_ok_weaker, run_at, ◌∙◌, ◌≡◌}
use Rattle.kt_store.proofs.Numbered.{put_refusal_is, taken}
use Rattle.kt_dbfile.proofs.SeenLemmas.{still_has}
use Rattle.kt_dbfile.proofs.result_trees.ResultTrees.check_can_put.Given.{Over}
use Rattle.kt_dbfile.proofs.result_trees.ResultTrees.check_can_put.Goals.{In_ok-is_taken}
use Rattle.kt_dbfile.proofs.result_trees.ResultTrees.check_can_put.Goals as goal

-- the run exists, and `is_taken` is whether it has an entry at the position
found : (g : Over) (c : In_ok-is_taken g) (runs : List Run) → HasRuns (g.S.Store.view c.args.self.now.store) runs → IsClean (g.S.Store.view c.has_entry_at.new.self.store)
    → (r : Run) × (run_at runs c.args.run ≡ Some r) × (c.in_ok-head.head ≡ head_of r) × AreValidRuns runs
    × (c.in_ok-is_taken.is_taken ≡ has_position c.args.entry.now.position (entries_of (run_at runs c.args.run)))
found g c runs has clean =
    let it = c.in_ok-head.ensures.found runs has (c.has_entry_at.ensures.looks.0.clean clean) in
    let is = c.in_ok-is_taken.ensures.found runs (still_has g.S.Store _ _ c.find_run_head.ensures.looks.0 runs has) clean in
    (it.0, it.1, it.2, it.3, rw (c.run_key.ensures.same c.in_ok-head.ensures.small) at is)

pub returns-clause-refused : goal.returns-clause-refused
returns-clause-refused g c runs has clean =
    let it = found g (goal.at.returns-clause-refused g c).In_ok-is_taken runs has clean in
    IfErr-weaker c.check_put.result _ _ (λ e why. inr (put_refusal_is runs c.args.run c.args.entry.now it.0 it.1 _ _ _ (ap (λ (h : RunHead). h.finished) it.2) (ap (λ (h : RunHead). h.total) it.2) it.4 ∙ why)) c.check_put.ensures.refused

pub returns-clause-accepted : goal.returns-clause-accepted
returns-clause-accepted g c runs has clean =
    let it = found g (goal.at.returns-clause-accepted g c).In_ok-is_taken runs has clean in
    on_ok_weaker c.check_put.result (λ accepted passed. taken runs c.args.run c.args.entry.now it.0 it.1 _ _ _ (ap (λ (h : RunHead). h.finished) it.2) (ap (λ (h : RunHead). h.total) it.2) it.4 accepted passed it.3) c.check_put.ensures.accepted
