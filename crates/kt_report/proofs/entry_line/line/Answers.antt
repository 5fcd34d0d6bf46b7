use Rattle.std.proofs.Common.{ap, ◌∙◌, codes}
use Rattle.kt_report.proofs.Common.{seconds_bytes, printable_reason, shows_as, shows_both, shows_error, shows_more}
use Rattle.kt_base.specs.Kinds.{kind_keyword}
use Rattle.kt_report.proofs.entry_line.line.Goals as goal

pub returns-in_err-emit_all : goal.returns-in_err-emit_all
returns-in_err-emit_all g c =
    let e = c.args.entry.now in
    shows_error _ _ c.from_residual.ensures.1 (shows_more (codes "s]\n") (shows_more (seconds_bytes e.millis) (shows_more (codes "  [") (shows_more (printable_reason e.verdict.kind e.verdict.reason) (shows_more (kind_keyword e.verdict.kind) (rw (c.as_bytes.ensures, c.as_bytes-case_name.ensures) at c.in_err-emit_all.ensures))))))

pub returns-in_err-emit : goal.returns-in_err-emit
returns-in_err-emit g c =
    let e = c.args.entry.now in
    shows_error _ _ c.from_residual-in_err-emit.ensures.1 (shows_more (codes "s]\n") (shows_more (seconds_bytes e.millis) (shows_more (codes "  [") (shows_more (printable_reason e.verdict.kind e.verdict.reason) (shows_both (rw (c.as_bytes.ensures, c.as_bytes-case_name.ensures) at c.in_ok-emit_all.ensures) (shows_as (c.as_bytes-2.ensures.value ∙ c.word.ensures ∙ ap kind_keyword c.kind.ensures) c.in_err-emit.ensures))))))

pub returns-in_err-write_reason : goal.returns-in_err-write_reason
returns-in_err-write_reason g c =
    let e = c.args.entry.now in
    shows_error _ _ c.from_residual-in_err-write_reason.ensures.1 (shows_more (codes "s]\n") (shows_more (seconds_bytes e.millis) (shows_more (codes "  [") (shows_both (shows_both (rw (c.as_bytes.ensures, c.as_bytes-case_name.ensures) at c.in_ok-emit_all.ensures) (shows_as (c.as_bytes-2.ensures.value ∙ c.word.ensures ∙ ap kind_keyword c.kind.ensures) c.in_ok-emit.ensures)) c.in_err-write_reason.ensures))))

pub returns-in_err-emit-2 : goal.returns-in_err-emit-2
returns-in_err-emit-2 g c =
    let e = c.args.entry.now in
    shows_error _ _ c.from_residual-in_err-emit-2.ensures.1 (shows_more (codes "s]\n") (shows_more (seconds_bytes e.millis) (shows_both (shows_both (shows_both (rw (c.as_bytes.ensures, c.as_bytes-case_name.ensures) at c.in_ok-emit_all.ensures) (shows_as (c.as_bytes-2.ensures.value ∙ c.word.ensures ∙ ap kind_keyword c.kind.ensures) c.in_ok-emit.ensures)) c.in_ok-write_reason.ensures) c.in_err-emit-2.ensures)))

pub returns-in_err-write_seconds : goal.returns-in_err-write_seconds
returns-in_err-write_seconds g c =
    shows_error _ _ c.from_residual-in_err-write_seconds.ensures.1 (shows_more (codes "s]\n") (shows_both (shows_both (shows_both (shows_both (rw (c.as_bytes.ensures, c.as_bytes-case_name.ensures) at c.in_ok-emit_all.ensures) (shows_as (c.as_bytes-2.ensures.value ∙ c.word.ensures ∙ ap kind_keyword c.kind.ensures) c.in_ok-emit.ensures)) c.in_ok-write_reason.ensures) c.in_ok-emit-2.ensures) (shows_as (ap seconds_bytes c.from.ensures) c.in_err-write_seconds.ensures)))

pub returns : goal.returns
returns g c =
    shows_both (shows_both (shows_both (shows_both (shows_both (rw (c.as_bytes.ensures, c.as_bytes-case_name.ensures) at c.in_ok-emit_all.ensures) (shows_as (c.as_bytes-2.ensures.value ∙ c.word.ensures ∙ ap kind_keyword c.kind.ensures) c.in_ok-emit.ensures)) c.in_ok-write_reason.ensures) c.in_ok-emit-2.ensures) (shows_as (ap seconds_bytes c.from.ensures) c.in_ok-write_seconds.ensures)) c.emit-3.ensures
