use Rattle.kt_store.proofs.Common.{Int, ap, column, entry_at, map, pair_columns, pairs_of, pos, run_at, sym, ◌∙◌, ◌≡◌}
use Rattle.kt_store.proofs.entries.read_entry.Goals as goal

pub returns-clause-entry : goal.returns-clause-entry
returns-clause-entry g c runs has clean e sound own is =
    let position : c.in_ok-position.position ≡ e.position = let q : Int (pos c.in_ok-position.position) ≡ Int (pos e.position) = sym c.in_ok-position.ensures.value ∙ ap (λ l. column l 0) is in cc in
    let meta = ap pairs_of (ap (entry_at (run_at runs c.args.run)) position ∙ own) in
    c.entry_from_row.ensures e sound is (c.in_ok-meta.ensures e.meta sound.meta (c.deref.ensures.value ∙ c.in_ok-pairs.ensures.all runs has clean ∙ ap (map pair_columns) meta))
