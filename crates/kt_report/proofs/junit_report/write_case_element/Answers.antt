use Rattle.std.proofs.Common.{ap, codes}
use Rattle.kt_report.proofs.Common.{seconds_bytes, result_element, output_element, shows_as, shows_both, shows_error, shows_more}
use Rattle.kt_report.proofs.junit_report.write_case_element.Goals as goal

pub returns-in_err-emit_all : goal.returns-in_err-emit_all
returns-in_err-emit_all g c =
    let t = c.args.texts.now in
    shows_error _ _ c.from_residual.ensures.1 (shows_more (codes "</testcase>\n") (shows_more (output_element (codes "system-err") t.err) (shows_more (output_element (codes "system-out") t.out) (shows_more (result_element c.args.kind t.reason) (shows_more (codes "\">\n") (shows_more (seconds_bytes c.args.millis) (rw (c.as_bytes.ensures, c.as_bytes-2.ensures) at c.in_err-emit_all.ensures)))))))

pub returns-in_err-write_seconds : goal.returns-in_err-write_seconds
returns-in_err-write_seconds g c =
    let t = c.args.texts.now in
    shows_error _ _ c.from_residual-in_err-write_seconds.ensures.1 (shows_more (codes "</testcase>\n") (shows_more (output_element (codes "system-err") t.err) (shows_more (output_element (codes "system-out") t.out) (shows_more (result_element c.args.kind t.reason) (shows_more (codes "\">\n") (shows_both (rw (c.as_bytes.ensures, c.as_bytes-2.ensures) at c.in_ok-emit_all.ensures) (shows_as (ap seconds_bytes c.from.ensures) c.in_err-write_seconds.ensures)))))))

pub returns-in_err-emit : goal.returns-in_err-emit
returns-in_err-emit g c =
    let t = c.args.texts.now in
    shows_error _ _ c.from_residual-in_err-emit.ensures.1 (shows_more (codes "</testcase>\n") (shows_more (output_element (codes "system-err") t.err) (shows_more (output_element (codes "system-out") t.out) (shows_more (result_element c.args.kind t.reason) (shows_both (shows_both (rw (c.as_bytes.ensures, c.as_bytes-2.ensures) at c.in_ok-emit_all.ensures) (shows_as (ap seconds_bytes c.from.ensures) c.in_ok-write_seconds.ensures)) c.in_err-emit.ensures)))))

pub returns-in_err-write_result_element : goal.returns-in_err-write_result_element
returns-in_err-write_result_element g c =
    let t = c.args.texts.now in
    shows_error _ _ c.from_residual-in_err-write_result_element.ensures.1 (shows_more (codes "</testcase>\n") (shows_more (output_element (codes "system-err") t.err) (shows_more (output_element (codes "system-out") t.out) (shows_both (shows_both (shows_both (rw (c.as_bytes.ensures, c.as_bytes-2.ensures) at c.in_ok-emit_all.ensures) (shows_as (ap seconds_bytes c.from.ensures) c.in_ok-write_seconds.ensures)) c.in_ok-emit.ensures) c.in_err-write_result_element.ensures))))

pub returns-in_err-write_output_element : goal.returns-in_err-write_output_element
returns-in_err-write_output_element g c =
    let t = c.args.texts.now in
    shows_error _ _ c.from_residual-in_err-write_output_element.ensures.1 (shows_more (codes "</testcase>\n") (shows_more (output_element (codes "system-err") t.err) (shows_both (shows_both (shows_both (shows_both (rw (c.as_bytes.ensures, c.as_bytes-2.ensures) at c.in_ok-emit_all.ensures) (shows_as (ap seconds_bytes c.from.ensures) c.in_ok-write_seconds.ensures)) c.in_ok-emit.ensures) c.in_ok-write_result_element.ensures) c.in_err-write_output_element.ensures)))

pub returns-in_err-write_output_element-2 : goal.returns-in_err-write_output_element-2
returns-in_err-write_output_element-2 g c =
    shows_error _ _ c.from_residual-in_err-write_output_element-2.ensures.1 (shows_more (codes "</testcase>\n") (shows_both (shows_both (shows_both (shows_both (shows_both (rw (c.as_bytes.ensures, c.as_bytes-2.ensures) at c.in_ok-emit_all.ensures) (shows_as (ap seconds_bytes c.from.ensures) c.in_ok-write_seconds.ensures)) c.in_ok-emit.ensures) c.in_ok-write_result_element.ensures) c.in_ok-write_output_element.ensures) c.in_err-write_output_element-2.ensures))

pub returns : goal.returns
returns g c =
    shows_both (shows_both (shows_both (shows_both (shows_both (shows_both (rw (c.as_bytes.ensures, c.as_bytes-2.ensures) at c.in_ok-emit_all.ensures) (shows_as (ap seconds_bytes c.from.ensures) c.in_ok-write_seconds.ensures)) c.in_ok-emit.ensures) c.in_ok-write_result_element.ensures) c.in_ok-write_output_element.ensures) c.in_ok-write_output_element-2.ensures) c.emit-2.ensures
