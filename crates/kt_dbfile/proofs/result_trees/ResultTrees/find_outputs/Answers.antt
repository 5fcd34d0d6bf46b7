use Rattle.kt_dbfile.proofs.Common.{IfErr-weaker, IfOk-weaker, None, Outputs, ap, drop, entries_of, entry_at, entry_row, filter, inl, inr, map, refl, run_at, sym, ℕ, ◌∙◌, ◌≡◌}
use Rattle.kt_dbfile.proofs.CursorLemmas.{cs, place_of_entry}
use Rattle.kt_store.proofs.OutputsLemmas.{has as is_at, row_there, no_row, no_run, past_run}
use Rattle.kt_dbfile.proofs.SeenLemmas.{outputs_agree, looked_serves}
use Rattle.kt_dbfile.proofs.result_trees.ResultTrees.find_outputs.Goals.{in_default-via-in-Some+else-from-run, in_default-via-in_default}
use Rattle.kt_dbfile.proofs.result_trees.ResultTrees.find_outputs.Goals as goal

pub returns-in-Some-clause-served : goal.returns-in-Some-clause-served
returns-in-Some-clause-served g c = looked_serves g.S.Store _ _ c.find_row_by_key.ensures.looks (Outputs c.args.run c.args.position _) (λ runs. refl) (λ runs may left. left) (λ runs has clean.
    let first = c.find_row_by_key.ensures.looks.clean clean in
    let sound = c.in_ok-row.ensures.sound clean in
    let keeps = has first sound in
    let n = c.run_key-number.result in
    let es = filter (is_at c.args.position) (entries_of (run_at runs n)) in
    let there = rw (c.entry_table.ensures.tree, c.entry_table.ensures.index, c.in_ok-place.ensures, c.in-Some.is) at (c.in_ok-row.ensures.found clean) cs (map (entry_row n) es) (λ shaped up. place_of_entry runs _ keeps shaped up n c.args.position) in
    let it = row_there (run_at runs n) n c.args.position (drop 1 c.in-Some.row) there in
    outputs_agree c.outputs_from_row.result runs c.args.run c.args.position
    (IfOk-weaker c.outputs_from_row.result _ _ (λ o same. (it.0, ap (λ (m : ℕ). entry_at (run_at runs m) c.args.position) (sym (sym c.from.ensures ∙ c.if-from-run.true)) ∙ it.1, same)) (c.outputs_from_row.ensures.outputs n it.0 it.2))
    (IfErr-weaker c.outputs_from_row.result _ _ (λ e failed. inl failed) c.outputs_from_row.ensures.failed))

pub returns-clause-served : goal.returns-clause-served
returns-clause-served g c = looked_serves g.S.Store _ _ c.find_row_by_key.ensures.looks (Outputs c.args.run c.args.position _) (λ runs. refl) (λ runs may left. left) (λ runs has clean.
    let first = c.find_row_by_key.ensures.looks.clean clean in
    let sound = c.in_ok-row.ensures.sound clean in
    let keeps = has first sound in
    let n = c.run_key-number.result in
    let es = filter (is_at c.args.position) (entries_of (run_at runs n)) in
    let there = rw (c.entry_table.ensures.tree, c.entry_table.ensures.index, c.in_ok-place.ensures) at (c.in_ok-row.ensures.found clean) cs (map (entry_row n) es) (λ shaped up. place_of_entry runs _ keeps shaped up n c.args.position) in
    inr (
      refl,
      elim c.in_default.branch [
        | in_default-via-in-Some+else-from-run w ↦ ap (λ o. entry_at o c.args.position) (past_run runs c.args.run n keeps.3.valid.few c.run_key-number.ensures.same (rw w.from.ensures at w.if-from-run.false))
        | in_default-via-in_default w ↦ no_run (λ o. entry_at o c.args.position ≡ None) refl runs c.args.run n keeps.3.valid.few c.run_key-number.ensures.same (no_row (run_at runs n) n c.args.position (rw w.in_default.is at there))
      ],
    ))
