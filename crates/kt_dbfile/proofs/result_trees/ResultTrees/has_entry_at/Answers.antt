use Rattle.kt_dbfile.proofs.Common.{entries_of, entry_row, filter, length-map, map, run_at, nat_lt, ◌∙◌, ap}
use Rattle.kt_dbfile.proofs.CursorLemmas.{cs, place_of_entry}
use Rattle.kt_store.proofs.EntriesLemmas.{any_left}
use Rattle.kt_store.proofs.OutputsLemmas.{has as is_at}
use Rattle.kt_dbfile.proofs.result_trees.ResultTrees.has_entry_at.Goals as goal

pub returns-clause-found : goal.returns-clause-found
returns-clause-found g c runs has clean =
    let sound = (c.in_ok-count.ensures.looks.1 clean).0 in
    let first = c.count_rows_by_key.ensures.looks.0.clean clean in
    let keeps = has first sound in
    let n = c.args.run in
    let p = c.args.position in
    let es = entries_of (run_at runs n) in
    let mine = map (entry_row n) (filter (is_at p) es) in
    let many = rw (c.entry_table.ensures.tree, c.entry_table.ensures.index, c.in_ok-place.ensures) at (c.in_ok-count.ensures.counted clean) cs mine (λ shaped up. place_of_entry runs _ keeps shaped up n p) in
    ap (λ k. nat_lt 0 k) (many ∙ length-map (filter (is_at p) es) (entry_row n)) ∙ any_left p es
