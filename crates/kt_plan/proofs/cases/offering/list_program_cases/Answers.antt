use Rattle.std.proofs.Common.{true, false, List, ◌≡◌, ◌∙◌, sym, subst}
use Rattle.kt_plan.proofs.Common.{Filter, err_from_is_err_and, IsSelectable, no_further}
use Rattle.kt_plan.proofs.Chains.{asked_nothing, asked_short, idle_once}
use Rattle.kt_plan.proofs.OfferLaws.{list_asked, offers_listed, offers_none, offers_single}
use Rattle.kt_plan.proofs.cases.offering.list_program_cases.Goals as goal

pub returns-then-not-is_selectable-clause-offers : goal.returns-then-not-is_selectable-clause-offers
returns-then-not-is_selectable-clause-offers g c =
    let unwanted : IsSelectable c.args.settings.now.filters c.args.program.now → ⊥ = λ w. absurd (
    let t : true ≡ false = sym (c.is_selectable.ensures.1 (subst (λ (fs : List Filter). IsSelectable fs c.args.program.now) (sym c.as_slice.ensures) w)) ∙ c.if-not-is_selectable.true in cc) in
    offers_none g.W.World.replies c.args.settings.now.config c.args.settings.now.filters c.args.program.now c.args.world.now c.new.result c.in-Atf.is unwanted c.new.ensures

pub returns-in_err-variables-in-Atf-clause-offers : goal.returns-in_err-variables-in-Atf-clause-offers
returns-in_err-variables-in-Atf-clause-offers g c =
    let p = err_from_is_err_and c.from_residual.result c.from_residual.ensures.1 in
    asked_short g.W.World.replies c.args.world.now c.args.world.now _ _ c.from_residual.result p.0 p.1 (asked_nothing g.W.World.replies c.args.world.now _ (no_further _))

pub returns-in_err-found-in-Atf-clause-offers : goal.returns-in_err-found-in-Atf-clause-offers
returns-in_err-found-in-Atf-clause-offers g c =
    let p = err_from_is_err_and c.from_residual-in_err-found-in-Atf.result c.from_residual-in_err-found-in-Atf.ensures.1 in
    let wanted : IsSelectable c.args.settings.now.filters c.args.program.now = subst (λ (fs : List Filter). IsSelectable fs c.args.program.now) c.as_slice.ensures (c.is_selectable.ensures.0 c.if-not-is_selectable.false) in
    asked_short g.W.World.replies c.args.world.now c.list.new.self _ _ c.from_residual-in_err-found-in-Atf.result p.0 p.1
    (list_asked g.W.World.replies c.args.settings.now.config c.args.settings.now.filters c.args.program.now c.in_ok-variables-in-Atf.variables c.args.world.now c.list.new.self c.list.result c.in-Atf.is wanted c.in_ok-variables-in-Atf.ensures c.list.ensures)

pub returns-in_err-found-in-Atf-clause-idle : goal.returns-in_err-found-in-Atf-clause-idle
returns-in_err-found-in-Atf-clause-idle g c =
    idle_once g.W.World.replies g.W.Launcher.running g.W.Launcher.pending g.met.W.World.host_keeps_running g.met.W.World.host_keeps_pending c.args.world.now c.list.new.self _ c.list.ensures c.requires

pub returns-in_err-found-in_default-clause-offers : goal.returns-in_err-found-in_default-clause-offers
returns-in_err-found-in_default-clause-offers g c =
    let p = err_from_is_err_and c.from_residual-in_err-found-in_default.result c.from_residual-in_err-found-in_default.ensures.1 in
    asked_short g.W.World.replies c.args.world.now c.args.world.now _ _ c.from_residual-in_err-found-in_default.result p.0 p.1 (asked_nothing g.W.World.replies c.args.world.now _ (no_further _))

pub returns-in_ok-found-in-Atf-clause-offers : goal.returns-in_ok-found-in-Atf-clause-offers
returns-in_ok-found-in-Atf-clause-offers g c =
    let wanted : IsSelectable c.args.settings.now.filters c.args.program.now = subst (λ (fs : List Filter). IsSelectable fs c.args.program.now) c.as_slice.ensures (c.is_selectable.ensures.0 c.if-not-is_selectable.false) in
    offers_listed g.W.World.replies c.args.settings.now.config c.args.settings.now.filters c.args.program.now c.in_ok-variables-in-Atf.variables c.args.world.now c.list.new.self c.list.result c.in-Atf.is wanted c.in_ok-variables-in-Atf.ensures c.list.ensures c.in_ok-found-in-Atf.found c.in_ok-found-in-Atf.ensures

pub returns-in_ok-found-in-Atf-clause-idle : goal.returns-in_ok-found-in-Atf-clause-idle
returns-in_ok-found-in-Atf-clause-idle g c =
    idle_once g.W.World.replies g.W.Launcher.running g.W.Launcher.pending g.met.W.World.host_keeps_running g.met.W.World.host_keeps_pending c.args.world.now c.list.new.self _ c.list.ensures c.requires

pub returns-in_ok-found-in_default : goal.returns-in_ok-found-in_default
returns-in_ok-found-in_default g c = record {
  offers = offers_single g.W.World.replies c.args.settings.now.config c.args.settings.now.filters c.args.program.now c.args.world.now c.in_ok-found-in_default.found c.in_default.not-Atf c.in_ok-found-in_default.ensures;
  idle = c.requires;
}
