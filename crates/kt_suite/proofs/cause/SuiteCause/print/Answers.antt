use Rattle.std.proofs.Common.{codes, ap, sym, ◌∙◌}
use Rattle.kt_suite.proofs.Common.{encode, decimal, utf8, shows_as}
use Rattle.kt_suite.proofs.FaultMessages.{utf8-cause, fixed-cause}
use Rattle.kt_suite.proofs.cause.SuiteCause.print.Goals as goal
use Rattle.kt_base.proofs.Showing.{utf8_three}

pub returns-in-WrongSyntax : goal.returns-in-WrongSyntax
unfolding encode
returns-in-WrongSyntax g c =
    let n = c.in-WrongSyntax.n in
    let number = c.as_bytes-in-WrongSyntax.ensures ∙ c.new-number.ensures.value ∙ sym c.new-number.ensures.ascii in
    rw c.in-WrongSyntax.is (shows_as (sym (utf8_three (codes "syntax ") (decimal n) (codes " not supported"))) (rw (c.as_bytes.ensures.value, number, c.as_bytes-in-WrongSyntax-2.ensures.value) at c.emit_all.ensures))

pub returns-in_default : goal.returns-in_default
returns-in_default g c =
    let words = c.as_bytes-in_default.ensures.value ∙ c.message.ensures ∙ sym (utf8-cause c.args.self.now) ∙ ap utf8 (fixed-cause c.args.self.now c.in_default.not-WrongSyntax) in
    shows_as words c.emit.ensures
