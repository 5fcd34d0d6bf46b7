use Rattle.std.proofs.Common.{ap}
use Rattle.kt_report.proofs.Common.{shows_as, shows_error, shows_none, property_bytes}
use Rattle.kt_report.proofs.InTurn.{shows_next, shows_cut_off, shows_whole}
use Rattle.kt_report.proofs.pairs.write_properties.Goals as goal

pub loop-pair-init : goal.loop-pair-init
loop-pair-init g c = shows_none

pub returns-in_err-write_property : goal.returns-in_err-write_property
returns-in_err-write_property g c =
    let cut = shows_as (ap property_bytes c.pair-item.is) c.in_err-write_property.ensures in
    shows_error _ _ c.from_residual.ensures.1 (shows_cut_off property_bytes c.args.pairs.now c.loop-pair.pair-index _ c.loop-pair-test.true c.loop-pair.invariant cut)

pub loop-pair-preserved : goal.loop-pair-preserved
loop-pair-preserved g c =
    let next = shows_as (ap property_bytes c.pair-item.is) c.in_ok-write_property.ensures in
    shows_next property_bytes c.args.pairs.now c.loop-pair.pair-index _ c.loop-pair-test.true c.loop-pair.invariant next

pub returns : goal.returns
returns g c = shows_whole property_bytes c.args.pairs.now c.loop-pair.pair-index c.loop-pair-test.false c.loop-pair.invariant
