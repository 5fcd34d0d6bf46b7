use Rattle.kt_dbfile.proofs.Common.{entries_of, entry_row, length-map, map, run_at, ◌∙◌}
use Rattle.kt_dbfile.proofs.CursorLemmas.{cs, places_of_run}
use Rattle.kt_dbfile.proofs.result_trees.ResultTrees.count_run_entries.Goals as goal

pub returns-clause-count : goal.returns-clause-count
returns-clause-count g c runs has clean =
    let sound = (c.in_ok-count.ensures.looks.1 clean).0 in
    let first = c.count_rows_by_key.ensures.looks.0.clean clean in
    let keeps = has first sound in
    let n = c.args.run in
    let es = entries_of (run_at runs n) in
    let many = rw (c.entry_table.ensures.tree, c.entry_table.ensures.index, c.in_ok-place.ensures) at (c.in_ok-count.ensures.counted clean) cs (map (entry_row n) es) (λ shaped up. places_of_run runs _ keeps shaped up n) in
    many ∙ length-map es (entry_row n)
