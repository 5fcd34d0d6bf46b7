use Rattle.std.proofs.Common.{◌++◌, ◌+◌, [], drop, get_or, ◌∙◌, refl}
use Rattle.kt_base.proofs.Common.{joined}
use Rattle.kt_base.proofs.Joining.{lent, next_part, next_cut, no_part}
use Rattle.kt_base.proofs.Showing.{shows_as, shows_both, shows_error, shows_more, shows_none}
use Rattle.kt_base.proofs.emission.emit_all.Goals as goal

pub loop-part-init : goal.loop-part-init
loop-part-init g c = ([], shows_none, refl)

pub returns-in_err-emit : goal.returns-in_err-emit
returns-in_err-emit g c =
    let inv = c.loop-part.invariant in
    let i = c.loop-part.part-index in
    let parts = c.args.parts.now in
    let later = joined (lent (drop (i + 1) parts)) in
    shows_error _ _ c.from_residual.ensures.1 (shows_as (next_cut inv.0 parts i _ _ c.loop-part-test.true inv.2) (shows_more later (shows_both inv.1 c.in_err-emit.ensures)))

pub loop-part-preserved : goal.loop-part-preserved
loop-part-preserved g c =
    let inv = c.loop-part.invariant in
    let i = c.loop-part.part-index in
    let parts = c.args.parts.now in
    (inv.0 ++ (get_or parts i _).now, shows_both inv.1 c.in_ok-emit.ensures, next_part inv.0 parts i _ c.loop-part-test.true ∙ inv.2)

pub returns : goal.returns
returns g c = let inv = c.loop-part.invariant in shows_as (no_part inv.0 c.args.parts.now c.loop-part.part-index _ c.loop-part-test.false inv.2) inv.1
