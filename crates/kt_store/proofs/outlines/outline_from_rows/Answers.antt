use Rattle.kt_store.proofs.Common.{IsValidEntry, [], ap, append-nil, arith, entry_columns, get_or, length, length-map, map, outline_entry, refl, rules, subst, suc, sym, take, ◌++◌, ◌+◌, ◌<◌, ◌∙◌, ◌∷◌, ◌≡◌}
use Rattle.kt_store.proofs.RunLemmas.{one_more}
use Rattle.kt_store.proofs.outlines.outline_from_rows.Goals as goal

pub loop-row-preserved : goal.loop-row-preserved
loop-row-preserved c es sound are =
    let i = c.loop-row.row-index in
    let pushed : c.push_item.new.items.items ≡ c.loop-row.entries.items ++ c.in_ok-entry.entry ∷ [] = search rules in
    let low : i < length es = omega (arith, c.loop-row-test.true, ap length are, length-map es entry_columns) in
    let it = one_more IsValidEntry entry_columns outline_entry es i c.row-item.result sound low (subst (λ l. c.row-item.result ≡ get_or l i c.row-item.result) are c.row-item.is) in
    let entry : c.in_ok-entry.entry ≡ outline_entry it.0 = c.in_ok-entry.ensures it.0 [] it.2 (it.1 ∙ sym (append-nil (entry_columns it.0))) in
    let more : map outline_entry (take (suc i) es) ≡ c.loop-row.entries.items ++ c.in_ok-entry.entry ∷ [] = it.3 ∙ rw (entry, c.loop-row.invariant es sound are) refl in
    let place : suc i ≡ i + 1 = omega arith in
    pushed ∙ sym more ∙ ap (λ k. map outline_entry (take k es)) place
