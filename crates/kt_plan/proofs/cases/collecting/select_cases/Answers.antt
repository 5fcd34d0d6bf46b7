use Rattle.kt_base.proofs.Lists.{error_is}
use Rattle.kt_plan.proofs.SelectLaws.{HasSelection, unsettled_answer, uncollected_answer, selected_answer}
use Rattle.kt_plan.proofs.cases.collecting.select_cases.Goals as goal

pub returns-in_err-settings-clause-selects : goal.returns-in_err-settings-clause-selects
returns-in_err-settings-clause-selects g c =
    error_is (HasSelection g.W.Tree.asks g.W.World.replies c.args.rule c.args.options.now c.args.world.now c.read_settings.new.world) c.from_residual.result _ c.from_residual.ensures.1
    (unsettled_answer g.W.Tree.asks g.W.World.replies _ _ _ _ _ c.in_err-settings.ensures.settled)

pub returns-in_err-chosen-clause-selects : goal.returns-in_err-chosen-clause-selects
returns-in_err-chosen-clause-selects g c =
    error_is (HasSelection g.W.Tree.asks g.W.World.replies c.args.rule c.args.options.now c.args.world.now c.load_and_select.new.world) c.from_residual-in_err-chosen.result _ c.from_residual-in_err-chosen.ensures.1
    (uncollected_answer g.W.Tree.asks g.W.World.replies _ _ _ _ _ _ _ c.in_ok-settings.ensures.settled c.in_err-chosen.ensures.collected)

pub returns-clause-selects : goal.returns-clause-selects
returns-clause-selects g c =
    selected_answer g.W.Tree.asks g.W.World.replies _ _ _ _ _ _ _ c.in_ok-settings.ensures.settled c.in_ok-chosen.ensures.collected
