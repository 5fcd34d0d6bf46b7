use Rattle.kt_dbfile.proofs.Common.{entries_of, entry_row, map, run_at, ◌∙◌}
use Rattle.kt_dbfile.proofs.CursorLemmas.{cs, places_of_run}
use Rattle.kt_store.proofs.EntriesLemmas.{sound_of}
use Rattle.kt_dbfile.proofs.SeenLemmas.{seen_entries}
use Rattle.kt_dbfile.proofs.result_trees.ResultTrees.read_outlines.Goals as goal

pub returns-clause-all : goal.returns-clause-all
returns-clause-all g c runs has clean =
    let first = c.read_rows_after.ensures.looks.clean clean in
    let sound = c.in_ok-rows.ensures.sound clean in
    let keeps = has first sound in
    let n = c.args.run in
    let es = entries_of (run_at runs n) in
    let shown = seen_entries n es _ ((rw (c.entry_table.ensures.tree, c.entry_table.ensures.index, c.in_ok-key.ensures) at (c.in_ok-rows.ensures.all clean)) cs (map (entry_row n) es) (λ shaped up. places_of_run runs _ keeps shaped up n)) in
    c.outline_from_rows.ensures es (sound_of runs n keeps.3.valid) (c.deref.ensures.value ∙ shown)
