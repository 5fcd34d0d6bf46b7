use Rattle.std.proofs.Common.{◌≡◌, ◌∷◌, [], ◌+◌, ap, arith, drop, length}
use Rattle.kt_plan.proofs.Common.{common_steps, err_from_is_err_and, needs_of_kind}
use Rattle.kt_plan.proofs.Chains.{asked_short}
use Rattle.kt_plan.proofs.LookLaws.{looking_next, looking_all, looking_stopped}
use Rattle.kt_plan.proofs.plan.looking.probe_needs.Goals as goal
use Rattle.std.proofs.lemmas.List.{nil_from_length}

pub returns-in_err-probe_need : goal.returns-in_err-probe_need
returns-in_err-probe_need g c =
    let p = err_from_is_err_and c.from_residual.result c.from_residual.ensures.1 in
    let e : drop c.loop-word.word-index c.args.words.now ≡ c.word-item.result ∷ drop (c.loop-word.word-index + 1) c.args.words.now = grind (arith, common_steps) in
    asked_short g.W.World.replies c.args.world.now c.probe_need.new.world _ _ c.from_residual.result p.0 p.1
    (looking_stopped g.W.World.replies (needs_of_kind c.args.need c.args.words.now) c.args.world.now c.args.host.now (needs_of_kind c.args.need (drop c.loop-word.word-index c.args.words.now)) ((c.args.need, c.word-item.result) ∷ []) (needs_of_kind c.args.need (drop (c.loop-word.word-index + 1) c.args.words.now)) c.loop-word.world c.probe_need.new.world c.loop-word.host (ap (needs_of_kind c.args.need) e) c.loop-word.invariant c.in_err-probe_need.ensures)

pub loop-word-preserved : goal.loop-word-preserved
loop-word-preserved g c =
    let e : drop c.loop-word.word-index c.args.words.now ≡ c.word-item.result ∷ drop (c.loop-word.word-index + 1) c.args.words.now = grind (arith, common_steps) in
    looking_next g.W.World.replies (needs_of_kind c.args.need c.args.words.now) c.args.world.now c.args.host.now (needs_of_kind c.args.need (drop c.loop-word.word-index c.args.words.now)) ((c.args.need, c.word-item.result) ∷ []) (needs_of_kind c.args.need (drop (c.loop-word.word-index + 1) c.args.words.now)) c.loop-word.world c.probe_need.new.world c.loop-word.host c.probe_need.new.host (ap (needs_of_kind c.args.need) e) c.loop-word.invariant c.in_ok-probe_need.ensures

pub returns : goal.returns
returns g c =
    let none : length (drop c.loop-word.word-index c.args.words.now) ≡ 0 = grind (arith, common_steps) in
    looking_all g.W.World.replies (needs_of_kind c.args.need c.args.words.now) c.args.world.now c.args.host.now (needs_of_kind c.args.need (drop c.loop-word.word-index c.args.words.now)) c.loop-word.world c.loop-word.host (ap (needs_of_kind c.args.need) (nil_from_length (drop c.loop-word.word-index c.args.words.now) none)) c.loop-word.invariant
