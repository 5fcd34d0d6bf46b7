use Rattle.std.proofs.Common.{◌≡◌, ◌∷◌, ◌+◌, ap, arith, drop, length}
use Rattle.kt_plan.proofs.Common.{common_steps, err_from_is_err_and, candidate_meta, case_needs, needs_of_cases}
use Rattle.kt_plan.proofs.Chains.{asked_short}
use Rattle.kt_plan.proofs.LookLaws.{looking_next, looking_all, looking_stopped}
use Rattle.kt_plan.proofs.plan.looking.probe_all_needs.Goals as goal
use Rattle.std.proofs.lemmas.List.{nil_from_length}

pub returns-in_err-probe_case_needs : goal.returns-in_err-probe_case_needs
returns-in_err-probe_case_needs g c =
    let p = err_from_is_err_and c.from_residual.result c.from_residual.ensures.1 in
    let e : drop c.loop-candidate.candidate-index c.args.cases.now ≡ c.candidate-item.result ∷ drop (c.loop-candidate.candidate-index + 1) c.args.cases.now = grind (arith, common_steps) in
    asked_short g.W.World.replies c.args.world.now c.probe_case_needs.new.world _ _ c.from_residual.result p.0 p.1
    (looking_stopped g.W.World.replies (needs_of_cases c.args.cases.now) c.args.world.now c.args.host.now (needs_of_cases (drop c.loop-candidate.candidate-index c.args.cases.now)) (case_needs c.candidate-item.result.case.fault (candidate_meta c.candidate-item.result)) (needs_of_cases (drop (c.loop-candidate.candidate-index + 1) c.args.cases.now)) c.loop-candidate.world c.probe_case_needs.new.world c.loop-candidate.host (ap needs_of_cases e) c.loop-candidate.invariant c.in_err-probe_case_needs.ensures)

pub loop-candidate-preserved : goal.loop-candidate-preserved
loop-candidate-preserved g c =
    let e : drop c.loop-candidate.candidate-index c.args.cases.now ≡ c.candidate-item.result ∷ drop (c.loop-candidate.candidate-index + 1) c.args.cases.now = grind (arith, common_steps) in
    looking_next g.W.World.replies (needs_of_cases c.args.cases.now) c.args.world.now c.args.host.now (needs_of_cases (drop c.loop-candidate.candidate-index c.args.cases.now)) (case_needs c.candidate-item.result.case.fault (candidate_meta c.candidate-item.result)) (needs_of_cases (drop (c.loop-candidate.candidate-index + 1) c.args.cases.now)) c.loop-candidate.world c.probe_case_needs.new.world c.loop-candidate.host c.probe_case_needs.new.host (ap needs_of_cases e) c.loop-candidate.invariant c.in_ok-probe_case_needs.ensures

pub returns : goal.returns
returns g c =
    let none : length (drop c.loop-candidate.candidate-index c.args.cases.now) ≡ 0 = grind (arith, common_steps) in
    looking_all g.W.World.replies (needs_of_cases c.args.cases.now) c.args.world.now c.args.host.now (needs_of_cases (drop c.loop-candidate.candidate-index c.args.cases.now)) c.loop-candidate.world c.loop-candidate.host (ap needs_of_cases (nil_from_length (drop c.loop-candidate.candidate-index c.args.cases.now) none)) c.loop-candidate.invariant
