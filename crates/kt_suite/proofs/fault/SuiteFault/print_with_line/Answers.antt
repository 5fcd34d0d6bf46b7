use Rattle.std.proofs.Common.{codes, sym, ◌∙◌}
use Rattle.kt_suite.proofs.Common.{encode, decimal, utf8, shows_as, shows_both, shows_error, shows_more, cause_message}
use Rattle.kt_suite.proofs.fault.SuiteFault.print_with_line.Goals as goal
use Rattle.kt_base.proofs.Showing.{utf8_five}

pub returns-in_err-emit_all : goal.returns-in_err-emit_all
unfolding encode
returns-in_err-emit_all g c =
    let f = c.args.self.now in
    let line = c.as_bytes-2.ensures ∙ c.new-line.ensures.value ∙ sym c.new-line.ensures.ascii in
    let whole = sym (utf8_five f.path (codes ":") (decimal f.line) (codes ": ") (cause_message f.cause)) in
    shows_error _ _ c.from_residual.ensures.1 (shows_as whole (shows_more (utf8 (cause_message f.cause)) (rw (c.as_bytes.ensures, line) at c.in_err-emit_all.ensures)))

pub returns : goal.returns
unfolding encode
returns g c =
    let f = c.args.self.now in
    let line = c.as_bytes-2.ensures ∙ c.new-line.ensures.value ∙ sym c.new-line.ensures.ascii in
    let whole = sym (utf8_five f.path (codes ":") (decimal f.line) (codes ": ") (cause_message f.cause)) in
    shows_as whole (shows_both (rw (c.as_bytes.ensures, line) at c.in_ok-emit_all.ensures) c.print.ensures)
