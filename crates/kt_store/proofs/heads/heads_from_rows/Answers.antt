use Rattle.kt_store.proofs.Common.{[], all_from, nat_tests, ap, arith, get_or, head_columns, head_of, length, length-map, map, refl, rules, subst, suc, sym, take, List, RunHead, ℕ, ◌++◌, ◌+◌, ◌<◌, ◌∙◌, ◌∷◌, ◌≡◌}
use Rattle.std.specs.Prelude.{⊤}
use Rattle.kt_store.specs.Inner.Heads.{AreNumberedFrom}
use Rattle.kt_store.proofs.RunLemmas.{one_more}
use Rattle.kt_store.proofs.heads.heads_from_rows.Goals as goal

-- heads numbered from `n` stay so with one more head of the next number
counted : (n : ℕ) (heads : List RunHead) (head : RunHead) → AreNumberedFrom n heads → head.number ≡ n + length heads → AreNumberedFrom n (heads ++ head ∷ [])
counted n [] head count is = (is ∙ omega arith, tt)
counted n (first ∷ heads) head count is = (count.0, counted (suc n) heads head count.1 (is ∙ omega arith))

pub loop-row-preserved : goal.loop-row-preserved
loop-row-preserved c = (
  λ runs are.
      let pushed : c.push_item.new.items.items ≡ c.loop-row.heads.items ++ c.in_ok-head.head ∷ [] = search rules in
      let low : c.loop-row.row-index < length runs = omega (arith, c.loop-row-test.true, ap length are, length-map runs head_columns) in
      let it = one_more (λ _. ⊤) head_columns head_of runs c.loop-row.row-index c.row-item.result (all_from (λ _. ⊤) runs (λ _ _. tt)) low (subst (λ l. c.row-item.result ≡ get_or l c.loop-row.row-index c.row-item.result) are c.row-item.is) in
      let head : c.in_ok-head.head ≡ head_of it.0 = c.in_ok-head.ensures.head it.0 it.1 in
      let more : map head_of (take (suc c.loop-row.row-index) runs) ≡ c.loop-row.heads.items ++ c.in_ok-head.head ∷ [] = it.3 ∙ rw (head, c.loop-row.invariant.0 runs are) refl in
      let place : suc c.loop-row.row-index ≡ c.loop-row.row-index + 1 = omega arith in
      pushed ∙ sym more ∙ ap (λ k. map head_of (take k runs)) place,
  let pushed : c.push_item.new.items.items ≡ c.loop-row.heads.items ++ c.in_ok-head.head ∷ [] = search rules in
      let number : c.in_ok-head.head.number ≡ 1 + length c.loop-row.heads.items = grind (arith, nat_tests, c.in_ok-ensure_sound.ensures.sound, c.len.ensures) in
      subst (AreNumberedFrom 1) (sym pushed) (counted 1 c.loop-row.heads.items c.in_ok-head.head c.loop-row.invariant.1 number),
)
