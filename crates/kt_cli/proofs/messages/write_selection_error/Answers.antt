use Rattle.std.proofs.Common.{codes, sym}
use Rattle.kt_cli.proofs.Common.{encode, utf8, shows_as, shows_both, shows_error, shows_more}
use Rattle.kt_plan.specs.SelectionMessages.{selection_error_message}
use Rattle.kt_cli.proofs.messages.write_selection_error.Goals as goal
use Rattle.kt_base.proofs.Showing.{utf8_three}

pub returns-in_err-emit : goal.returns-in_err-emit
unfolding encode
returns-in_err-emit g c =
    let words = selection_error_message c.args.stop.now in
    shows_error _ _ c.from_residual.ensures.1 (shows_as (sym (utf8_three (codes "kyua: E: ") words (codes "\n"))) (shows_more (codes "\n") (shows_more (utf8 words) c.in_err-emit.ensures)))

pub returns-in_err-print : goal.returns-in_err-print
unfolding encode
returns-in_err-print g c =
    let words = selection_error_message c.args.stop.now in
    shows_error _ _ c.from_residual-in_err-print.ensures.1 (shows_as (sym (utf8_three (codes "kyua: E: ") words (codes "\n"))) (shows_more (codes "\n") (shows_both c.in_ok-emit.ensures c.in_err-print.ensures)))

pub returns : goal.returns
unfolding encode
returns g c =
    let words = selection_error_message c.args.stop.now in
    shows_as (sym (utf8_three (codes "kyua: E: ") words (codes "\n"))) (shows_both (shows_both c.in_ok-emit.ensures c.in_ok-print.ensures) c.emit-2.ensures)
