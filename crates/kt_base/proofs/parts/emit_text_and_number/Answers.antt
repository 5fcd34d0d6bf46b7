use Rattle.kt_base.proofs.Common.{chars, err_from_is_err_and, number_text, utf8}
use Rattle.kt_base.proofs.Showing.{shows_both, shows_more, utf8-append}
use Rattle.kt_base.proofs.parts.emit_text_and_number.Goals as goal

pub returns-in_err-emit_text : goal.returns-in_err-emit_text
returns-in_err-emit_text g c = let p = err_from_is_err_and c.from_residual.result c.from_residual.ensures.1 in
    rw (p.1, utf8-append (chars c.args.words.now) (number_text c.args.number)) (shows_more (utf8 (number_text c.args.number)) c.in_err-emit_text.ensures)

pub returns : goal.returns
returns g c = rw (utf8-append (chars c.args.words.now) (number_text c.args.number)) (shows_both c.in_ok-emit_text.ensures c.emit_optional_number.ensures)
