use Rattle.std.proofs.Common.{rules, ◌≡◌, ◌+◌, ◌∷◌, length, drop, sym, ap, ◌∙◌, drop_of_length-le}
use Rattle.kt_suite.proofs.Common.{drop_more, Item, is_selected}
use Rattle.kt_suite.proofs.Picking.{unmatched_at_last, unmatched_after, place_taken, place_passed}
use Rattle.kt_suite.proofs.selecting.select_items.Goals.{then-select_item+in_ok-push, else-select_item}
use Rattle.kt_suite.proofs.selecting.select_items.Goals as goal

pub loop-item-preserved : goal.loop-item-preserved
loop-item-preserved c =
    let xs = c.args.items.now in
    let i = c.loop-item.item-index in
    let rest : drop i xs ≡ c.item-item.result ∷ drop (i + 1) xs = drop_more xs i _ c.loop-item-test.true ∙ ap (λ (x : Item). x ∷ drop (i + 1) xs) (sym c.item-item.is) in
    record {
      found =
          elim c.if-select_item.branch [
            | then-select_item+in_ok-push w ↦
                place_taken (is_selected c.args.filters.now) c.loop-item.place (drop i xs) c.item-item.result (drop (i + 1) xs) c.loop-item.cases.items c.if-select_item.cases.items _ rest
                w.if-select_item.ensures.selected (ap (λ v. v.items) w.cases-is ∙ w.in_ok-push.ensures.items) c.loop-item.invariant.found
            | else-select_item w ↦
                place_passed (is_selected c.args.filters.now) c.loop-item.place (drop i xs) c.item-item.result (drop (i + 1) xs) c.loop-item.cases.items c.if-select_item.cases.items _ rest
                w.if-select_item.ensures.selected (ap (λ v. v.items) w.cases-is) c.loop-item.invariant.found
          ];
      counted = search rules;
      left =
          unmatched_after (drop i xs) c.args.filters.now c.item-item.result (drop (i + 1) xs) c.loop-item.unmatched.items c.select_item.new.unmatched.items _ rest c.select_item.ensures.unmatched
          c.loop-item.invariant.left;
    }

pub returns-clause-unmatched : goal.returns-clause-unmatched
returns-clause-unmatched c =
    unmatched_at_last (drop c.loop-item.item-index c.args.items.now) c.args.filters.now c.loop-item.unmatched.items (ap length (drop_of_length-le c.args.items.now c.loop-item-test.false))
    ∙ c.loop-item.invariant.left
