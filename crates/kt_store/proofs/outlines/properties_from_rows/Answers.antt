use Rattle.kt_store.proofs.Common.{IsEncodableProperty, [], ap, arith, get_or, length, length-map, map, pair_columns, refl, subst, suc, sym, take, ◌++◌, ◌+◌, ◌<◌, ◌∙◌, ◌∷◌, ◌≡◌}
use Rattle.kt_store.proofs.RunLemmas.{one_more}
use Rattle.kt_store.proofs.outlines.properties_from_rows.Goals as goal

pub loop-row-preserved : goal.loop-row-preserved
loop-row-preserved c vs sound are =
    let i = c.loop-row.row-index in
    let low : i < length vs = omega (arith, c.loop-row-test.true, ap length are, length-map vs pair_columns) in
    let it = one_more IsEncodableProperty pair_columns (λ v. v) vs i c.row-item.result sound low (subst (λ l. c.row-item.result ≡ get_or l i c.row-item.result) are c.row-item.is) in
    let pair = c.in_ok-property_from_row.ensures it.0 it.2 it.1 in
    let more : map (λ v. v) (take (suc i) vs) ≡ c.loop-row.pairs ++ c.in_ok-property_from_row.field-0 ∷ [] = it.3 ∙ rw (pair, c.loop-row.invariant vs sound are) refl in
    let place : suc i ≡ i + 1 = omega arith in
    c.in_ok-push.ensures.ok ∙ sym more ∙ ap (λ k. map (λ v. v) (take k vs)) place
