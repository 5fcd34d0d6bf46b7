use Rattle.kt_dbfile.proofs.Common.{Pairs, ap, entry_at, pair_rows_from, pairs_of, refl, run_at, ◌∙◌}
use Rattle.kt_dbfile.proofs.CursorLemmas.{cs3, places_of_pairs}
use Rattle.kt_store.proofs.SoundEntries.{pairs_sound}
use Rattle.kt_store.proofs.OutputsLemmas.{same_run}
use Rattle.kt_dbfile.proofs.SeenLemmas.{seen_pairs, looked_serves}
use Rattle.kt_dbfile.proofs.result_trees.ResultTrees.find_properties.Goals as goal

pub returns-clause-served : goal.returns-clause-served
returns-clause-served g c = looked_serves g.S.Store _ _ c.read_rows_after.ensures.looks (Pairs c.args.run c.args.position _) (λ runs. refl) (λ runs may left. left) (λ runs has clean.
    let first = c.read_rows_after.ensures.looks.clean clean in
    let sound = c.in_ok-rows.ensures.sound clean in
    let keeps = has first sound in
    let n = c.run_key-number.result in
    let p = c.args.position in
    let vs = pairs_of (entry_at (run_at runs n) p) in
    let shown = seen_pairs n p vs _ ((rw (c.property_table.ensures.tree, c.property_table.ensures.index, c.in_ok-place.ensures) at (c.in_ok-rows.ensures.all clean)) cs3 (pair_rows_from n p 0 vs) (λ shaped up. places_of_pairs runs _ keeps shaped up n p)) in
    c.in_ok-properties_from_rows.ensures vs (pairs_sound runs n p keeps.3.valid) (c.deref.ensures.value ∙ shown) ∙ ap (λ o. pairs_of (entry_at o p)) (same_run runs c.args.run n keeps.3.valid.few c.run_key-number.ensures.same c.run_key-number.ensures.none))
