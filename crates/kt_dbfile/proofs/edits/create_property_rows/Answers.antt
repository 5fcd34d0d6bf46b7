use Rattle.kt_dbfile.proofs.Common.{IsEncodableProperty, Row, [], all_more, ap, ap₂, arith, map, pair_row, pair_rows_from, rules, suc, sym, take, row_without_rowid, ◌++◌, ◌+◌, ◌∙◌, ◌∷◌, ◌≡◌}
use Rattle.kt_dbfile.proofs.EditLemmas.{pairs_taken}
use Rattle.kt_dbfile.proofs.edits.create_property_rows.Goals as goal

pub loop-pair-preserved : goal.loop-pair-preserved
loop-pair-preserved c =
    let i = c.loop-pair.pair-index in
    let vs = c.args.pairs.now in
    let v = c.pair-item.result in
    let pushed : c.push_item.new.items.items ≡ c.loop-pair.rows.items ++ c.in_ok-row.row ∷ [] = search rules in
    let place : c.loop-pair.place ≡ 0 + i = omega (arith, c.loop-pair.invariant.0) in
    let row : c.in_ok-row.row ≡ row_without_rowid (pair_row c.args.run c.args.position (0 + i) v) = c.in_ok-row.ensures.row ∙ ap (λ k. row_without_rowid (pair_row c.args.run c.args.position k v)) place in
    let taken = pairs_taken c.args.run c.args.position 0 i vs v (omega (arith, c.loop-pair-test.true)) c.pair-item.is in
    let next : suc i ≡ i + 1 = omega arith in (
      omega (arith, c.loop-pair.invariant.0),
      pushed ∙ ap₂ (λ (l : _) (x : Row). l ++ x ∷ []) c.loop-pair.invariant.1 row ∙ sym taken ∙ ap (λ k. map row_without_rowid (pair_rows_from c.args.run c.args.position 0 (take k vs))) next,
      all_more IsEncodableProperty vs i v (omega (arith, c.loop-pair-test.true)) c.pair-item.is c.loop-pair.invariant.2 c.in_ok-row.ensures.texts,
    )
