use Rattle.kt_store.proofs.Common.{AreValidRuns, HasCleanDisk, IfErr-weaker, List, Run, Some, StandsFor, ap, entries_of, inr, length, length-map, on_ok_weaker, run_at, state, full_entry_columns, ◌∙◌, ◌≡◌}
use Rattle.kt_store.proofs.AskLemmas.{looked-then, was_clean}
use Rattle.kt_store.proofs.CloseLemmas.{finish_refusal_is, finishes}
use Rattle.kt_store.proofs.run_rows.check_can_finish.Given.{Over}
use Rattle.kt_store.proofs.run_rows.check_can_finish.Goals.{In_ok-rows}
use Rattle.kt_store.proofs.run_rows.check_can_finish.Goals as goal

-- the run exists, and there are as many rows as it has entries
found : (g : Over) (c : In_ok-rows g) (runs : List Run) → StandsFor (state g.S.Store c.args.conn.now) runs → HasCleanDisk (state g.S.Store c.read_entry_rows.new.conn)
    → (r : Run) × (run_at runs c.args.run ≡ Some r) × (c.in_ok-total.total ≡ r.total) × (c.in_ok-total.finished ≡ r.finished) × AreValidRuns runs
    × (length c.in_ok-rows.rows.items ≡ length (entries_of (run_at runs c.args.run)))
found g c runs has clean =
    let stands = c.look_up_run.ensures.looked.stands runs has in
    let it = c.in_ok-total.ensures.found runs has (was_clean c.read_entry_rows.ensures.looked runs stands clean) in
    (it.0, it.1, it.2, it.3, it.4, ap length (rw (c.run_key.ensures.same c.in_ok-total.ensures.small) at (c.in_ok-rows.ensures.all runs stands clean)) ∙ length-map (entries_of (run_at runs c.args.run)) full_entry_columns)

pub returns-clause-refused : goal.returns-clause-refused
returns-clause-refused g c runs has clean =
    let it = found g (goal.at.returns-clause-refused g c).In_ok-rows runs has clean in
    IfErr-weaker c.check_finish.result _ _ (λ e why. inr (finish_refusal_is runs c.args.run it.0 it.1 _ _ _ it.3 it.2 (ap length c.as_slice.ensures.value ∙ it.5) ∙ why)) c.check_finish.ensures.refused

pub returns-clause-taken : goal.returns-clause-taken
returns-clause-taken g c runs has clean =
    let it = found g (goal.at.returns-clause-taken g c).In_ok-rows runs has clean in
    on_ok_weaker c.check_finish.result (λ accepted. finishes runs c.args.run it.0 it.1 _ _ _ it.3 it.2 (ap length c.as_slice.ensures.value ∙ it.5) accepted it.4) c.check_finish.ensures.accepted

pub returns-in_err-rows-clause-looked : goal.returns-in_err-rows-clause-looked
returns-in_err-rows-clause-looked g c = looked-then c.look_up_run.ensures.looked c.read_entry_rows.ensures.looked

pub returns-clause-looked : goal.returns-clause-looked
returns-clause-looked g c = looked-then c.look_up_run.ensures.looked c.read_entry_rows.ensures.looked
