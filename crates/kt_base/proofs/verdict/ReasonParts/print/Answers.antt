use Rattle.std.proofs.Common.{◌++◌}
use Rattle.kt_base.proofs.Common.{chars, err_from_is_err_and, number_text, utf8}
use Rattle.kt_base.proofs.PartTexts.{parts_bytes}
use Rattle.kt_base.proofs.Showing.{shows_both, shows_more}
use Rattle.kt_base.proofs.verdict.ReasonParts.print.Goals as goal

pub returns-in_err-emit_text : goal.returns-in_err-emit_text
returns-in_err-emit_text g c =
    let s = c.args.self.now in
    let first = utf8 (chars s.lead.now ++ number_text s.first) in
    let second = utf8 (chars s.between.now ++ number_text s.second) in
    let tail = utf8 (chars s.tail.now) in
    let bytes = parts_bytes (chars s.head.now) (chars s.lead.now) (number_text s.first) (chars s.between.now) (number_text s.second) (chars s.tail.now) in
    let p = err_from_is_err_and c.from_residual.result c.from_residual.ensures.1 in
    rw (p.1, bytes) (shows_more (first ++ (second ++ tail)) c.in_err-emit_text.ensures)

pub returns-in_err-emit_text_and_number : goal.returns-in_err-emit_text_and_number
returns-in_err-emit_text_and_number g c =
    let s = c.args.self.now in
    let second = utf8 (chars s.between.now ++ number_text s.second) in
    let tail = utf8 (chars s.tail.now) in
    let bytes = parts_bytes (chars s.head.now) (chars s.lead.now) (number_text s.first) (chars s.between.now) (number_text s.second) (chars s.tail.now) in
    let p = err_from_is_err_and c.from_residual-in_err-emit_text_and_number.result c.from_residual-in_err-emit_text_and_number.ensures.1 in
    rw (p.1, bytes) (shows_both c.in_ok-emit_text.ensures (shows_more (second ++ tail) c.in_err-emit_text_and_number.ensures))

pub returns-in_err-emit_text_and_number-2 : goal.returns-in_err-emit_text_and_number-2
returns-in_err-emit_text_and_number-2 g c =
    let s = c.args.self.now in
    let tail = utf8 (chars s.tail.now) in
    let bytes = parts_bytes (chars s.head.now) (chars s.lead.now) (number_text s.first) (chars s.between.now) (number_text s.second) (chars s.tail.now) in
    let p = err_from_is_err_and c.from_residual-in_err-emit_text_and_number-2.result c.from_residual-in_err-emit_text_and_number-2.ensures.1 in
    rw (p.1, bytes) (shows_both c.in_ok-emit_text.ensures (shows_both c.in_ok-emit_text_and_number.ensures (shows_more tail c.in_err-emit_text_and_number-2.ensures)))

pub returns : goal.returns
returns g c =
    let s = c.args.self.now in
    let bytes = parts_bytes (chars s.head.now) (chars s.lead.now) (number_text s.first) (chars s.between.now) (number_text s.second) (chars s.tail.now) in
    rw bytes (shows_both c.in_ok-emit_text.ensures (shows_both c.in_ok-emit_text_and_number.ensures (shows_both c.in_ok-emit_text_and_number-2.ensures c.emit_text-2.ensures)))
