use Rattle.kt_store.proofs.Common.{AreValidRuns, HasCleanDisk, IfErr-weaker, List, Run, Some, StandsFor, entries_of, has_position, inr, on_ok_weaker, run_at, state, ◌∙◌, ◌≡◌}
use Rattle.kt_store.proofs.AskLemmas.{looked-then, was_clean}
use Rattle.kt_store.proofs.Numbered.{put_refusal_is, taken}
use Rattle.kt_store.proofs.put.check_can_put.Given.{Over}
use Rattle.kt_store.proofs.put.check_can_put.Goals.{In_ok-is_taken}
use Rattle.kt_store.proofs.put.check_can_put.Goals as goal

-- the run exists, and `is_taken` is whether it has an entry at the position
found : (g : Over) (c : In_ok-is_taken g) (runs : List Run) → StandsFor (state g.S.Store c.args.conn.now) runs → HasCleanDisk (state g.S.Store c.has_entry_at.new.conn)
    → (r : Run) × (run_at runs c.args.run ≡ Some r) × (c.in_ok-total.total ≡ r.total) × (c.in_ok-total.finished ≡ r.finished) × AreValidRuns runs
    × (c.in_ok-is_taken.is_taken ≡ has_position c.args.entry.now.position (entries_of (run_at runs c.args.run)))
found g c runs has clean =
    let stands = c.look_up_run.ensures.looked.stands runs has in
    let it = c.in_ok-total.ensures.found runs has (was_clean c.has_entry_at.ensures.looked runs stands clean) in
    (it.0, it.1, it.2, it.3, it.4, rw (c.run_key.ensures.same c.in_ok-total.ensures.small) at (c.in_ok-is_taken.ensures.found runs stands clean))

pub returns-clause-refused : goal.returns-clause-refused
returns-clause-refused g c runs has clean =
    let it = found g (goal.at.returns-clause-refused g c).In_ok-is_taken runs has clean in
    IfErr-weaker c.check_put.result _ _ (λ e why. inr (put_refusal_is runs c.args.run c.args.entry.now it.0 it.1 _ _ _ it.3 it.2 it.5 ∙ why)) c.check_put.ensures.refused

pub returns-clause-taken : goal.returns-clause-taken
returns-clause-taken g c runs has clean =
    let it = found g (goal.at.returns-clause-taken g c).In_ok-is_taken runs has clean in
    on_ok_weaker c.check_put.result (λ accepted passed. taken runs c.args.run c.args.entry.now it.0 it.1 _ _ _ it.3 it.2 it.5 accepted passed it.4) c.check_put.ensures.accepted

pub returns-in_err-is_taken-clause-looked : goal.returns-in_err-is_taken-clause-looked
returns-in_err-is_taken-clause-looked g c = looked-then c.look_up_run.ensures.looked c.has_entry_at.ensures.looked

pub returns-clause-looked : goal.returns-clause-looked
returns-clause-looked g c = looked-then c.look_up_run.ensures.looked c.has_entry_at.ensures.looked
