use Rattle.std.proofs.Common.{◌≡◌, ◌∷◌, ◌+◌, arith, drop, length}
use Rattle.kt_plan.proofs.Common.{common_steps, err_from_is_err_and}
use Rattle.kt_plan.proofs.Chains.{asked_short}
use Rattle.kt_plan.proofs.OfferLaws.{first_offered, offers_next, offers_all, offers_stopped}
use Rattle.kt_plan.proofs.cases.offering.list_all_cases.Goals as goal

pub returns-in_err-cases-clause-offers : goal.returns-in_err-cases-clause-offers
returns-in_err-cases-clause-offers g c =
    let p = err_from_is_err_and c.from_residual.result c.from_residual.ensures.1 in
    let e : drop c.loop-program.program-index c.args.programs.now ≡ c.program-item.result ∷ drop (c.loop-program.program-index + 1) c.args.programs.now = grind (arith, common_steps) in
    asked_short g.W.World.replies c.args.world.now c.list_program_cases.new.world _ _ c.from_residual.result p.0 p.1
    (offers_stopped g.W.World.replies c.args.settings.now.config c.args.settings.now.filters c.args.programs.now c.args.world.now (drop c.loop-program.program-index c.args.programs.now) (drop (c.loop-program.program-index + 1) c.args.programs.now) c.program-item.result c.loop-program.world c.list_program_cases.new.world c.loop-program.found e c.loop-program.invariant.offering c.in_err-cases.ensures.offers)

pub returns-in_err-add_candidates-clause-offers : goal.returns-in_err-add_candidates-clause-offers
returns-in_err-add_candidates-clause-offers g c =
    let p = err_from_is_err_and c.from_residual-in_err-add_candidates.result c.from_residual-in_err-add_candidates.ensures.1 in
    let e : drop c.loop-program.program-index c.args.programs.now ≡ c.program-item.result ∷ drop (c.loop-program.program-index + 1) c.args.programs.now = grind (arith, common_steps) in
    asked_short g.W.World.replies c.args.world.now c.list_program_cases.new.world _ _ c.from_residual-in_err-add_candidates.result p.0 p.1
    (offers_stopped g.W.World.replies c.args.settings.now.config c.args.settings.now.filters c.args.programs.now c.args.world.now (drop c.loop-program.program-index c.args.programs.now) (drop (c.loop-program.program-index + 1) c.args.programs.now) c.program-item.result c.loop-program.world c.list_program_cases.new.world c.loop-program.found e c.loop-program.invariant.offering
    (first_offered g.W.World.replies c.args.settings.now.config c.args.settings.now.filters c.program-item.result c.loop-program.world c.list_program_cases.new.world _ c.in_ok-cases.ensures.offers))

pub loop-program-preserved : goal.loop-program-preserved
loop-program-preserved g c =
    let e : drop c.loop-program.program-index c.args.programs.now ≡ c.program-item.result ∷ drop (c.loop-program.program-index + 1) c.args.programs.now = grind (arith, common_steps) in
    record {
      offering = offers_next g.W.World.replies c.args.settings.now.config c.args.settings.now.filters c.args.programs.now c.args.world.now (drop c.loop-program.program-index c.args.programs.now) (drop (c.loop-program.program-index + 1) c.args.programs.now) c.program-item.result c.loop-program.world c.list_program_cases.new.world c.loop-program.found c.add_candidates.new.found c.in_ok-cases.cases e c.loop-program.invariant.offering c.in_ok-cases.ensures.offers c.in_ok-add_candidates.ensures;
      idle = c.list_program_cases.ensures.idle;
    }

pub returns-clause-offers : goal.returns-clause-offers
returns-clause-offers g c =
    let none : length (drop c.loop-program.program-index c.args.programs.now) ≡ 0 = grind (arith, common_steps) in
    offers_all g.W.World.replies c.args.settings.now.config c.args.settings.now.filters c.args.programs.now c.args.world.now (drop c.loop-program.program-index c.args.programs.now) c.loop-program.world c.loop-program.found none c.loop-program.invariant.offering
