use Rattle.kt_dbfile.proofs.Common.{AreValidRuns, HasRuns, IsClean, List, Run, RunHead, Some, ap, entries_of, head_of, inr, length, run_at, run_row, ◌∙◌, ◌≡◌}
use Rattle.kt_store.proofs.CloseLemmas.{finish_refusal_is, finishes}
use Rattle.kt_store.proofs.FaultLemmas.{if_same}
use Rattle.kt_dbfile.proofs.SeenLemmas.{still_has}
use Rattle.kt_dbfile.proofs.result_trees.ResultTrees.check_can_finish.Given.{Over}
use Rattle.kt_dbfile.proofs.result_trees.ResultTrees.check_can_finish.Goals.{In_ok-count}
use Rattle.kt_dbfile.proofs.result_trees.ResultTrees.check_can_finish.Goals as goal

-- the run exists, and `count` is the number of its entries
found : (g : Over) (c : In_ok-count g) (runs : List Run) → HasRuns (g.S.Store.view c.args.self.now.store) runs → IsClean (g.S.Store.view c.count_run_entries.new.self.store)
    → (r : Run) × (run_at runs c.args.run ≡ Some r) × (c.in_ok-row.row ≡ run_row r) × (c.in_ok-head.head ≡ head_of r) × AreValidRuns runs
    × (c.in_ok-count.count ≡ length (entries_of (run_at runs c.args.run)))
found g c runs has clean =
    let it = c.in_ok-row.ensures.found runs has (c.count_run_entries.ensures.looks.0.clean clean) in
    let many = c.in_ok-count.ensures.count runs (still_has g.S.Store _ _ c.find_run_row.ensures.looks.0 runs has) clean in
    (it.0, it.1, it.2, c.in_ok-head.ensures.head it.0 it.2, it.3, rw (c.run_key.ensures.same c.in_ok-row.ensures.small) at many)

pub returns-in_err-check_finish-clause-refused : goal.returns-in_err-check_finish-clause-refused
returns-in_err-check_finish-clause-refused g c runs has clean =
    let it = found g (goal.at.returns-in_err-check_finish-clause-refused g c).In_ok-count runs has clean in
    if_same _ c.from_residual-in_err-check_finish.result c.in_err-check_finish.field-0.0 c.from_residual-in_err-check_finish.ensures.1 (inr (finish_refusal_is runs c.args.run it.0 it.1 _ _ _ (ap (λ (h : RunHead). h.finished) it.3) (ap (λ (h : RunHead). h.total) it.3) it.5 ∙ c.in_err-check_finish.ensures.refused))

pub returns-clause-accepted : goal.returns-clause-accepted
returns-clause-accepted g c runs has clean =
    let it = found g (goal.at.returns-clause-accepted g c).In_ok-count runs has clean in
    let both = finishes runs c.args.run it.0 it.1 _ _ _ (ap (λ (h : RunHead). h.finished) it.3) (ap (λ (h : RunHead). h.total) it.3) it.5 c.in_ok-check_finish.ensures.accepted it.4 in
    (it.0, it.1, it.2, both.0, both.1)
