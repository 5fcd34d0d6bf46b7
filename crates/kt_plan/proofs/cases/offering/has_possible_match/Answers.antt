use Rattle.std.proofs.Common.{true, false, ◌≡◌, ◌∷◌, ◌∙◌, sym, ◌+◌, arith, drop}
use Rattle.kt_plan.proofs.Common.{common_steps, MayMatch}
use Rattle.kt_plan.proofs.Wanting.{among_after, ahead_after}
use Rattle.kt_plan.proofs.cases.offering.has_possible_match.Goals as goal

pub loop-filter-preserved : goal.loop-filter-preserved
loop-filter-preserved c =
    let e : drop c.loop-filter.filter-index c.args.filters.now ≡ c.filter-item.result ∷ drop (c.loop-filter.filter-index + 1) c.args.filters.now = grind (arith, common_steps) in
    let never : MayMatch c.filter-item.result c.args.path.now → ⊥ = λ m. absurd (let t : true ≡ false = sym (c.may_match.ensures.1 m) ∙ c.if-may_match.false in cc) in
    record {
      among = among_after c.filter-item.result (drop (c.loop-filter.filter-index + 1) c.args.filters.now) (drop c.loop-filter.filter-index c.args.filters.now) c.args.filters.now e c.loop-filter.invariant.among;
      ahead = ahead_after c.filter-item.result (drop (c.loop-filter.filter-index + 1) c.args.filters.now) (drop c.loop-filter.filter-index c.args.filters.now) c.args.filters.now c.args.path.now e never c.loop-filter.invariant.ahead;
    }
