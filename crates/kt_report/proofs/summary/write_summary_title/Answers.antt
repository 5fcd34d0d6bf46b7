use Rattle.kt_report.proofs.Common.{moment_bytes, unfinished_bytes, shows_both, shows_error, shows_more}
use Rattle.kt_report.proofs.summary.write_summary_title.Goals as goal

pub returns-in_err-emit_all : goal.returns-in_err-emit_all
returns-in_err-emit_all g c =
    shows_error _ _ c.from_residual.ensures.1 (shows_more (unfinished_bytes c.args.run.now.finished) (shows_more (moment_bytes c.args.date c.args.run.now.started) (rw (c.as_bytes.ensures, c.new-number.ensures.value) at c.in_err-emit_all.ensures)))

pub returns-in_err-write_moment : goal.returns-in_err-write_moment
returns-in_err-write_moment g c =
    shows_error _ _ c.from_residual-in_err-write_moment.ensures.1 (shows_more (unfinished_bytes c.args.run.now.finished) (shows_both (rw (c.as_bytes.ensures, c.new-number.ensures.value) at c.in_ok-emit_all.ensures) c.in_err-write_moment.ensures))

pub returns : goal.returns
returns g c =
    shows_both (shows_both (rw (c.as_bytes.ensures, c.new-number.ensures.value) at c.in_ok-emit_all.ensures) c.in_ok-write_moment.ensures) c.write_unfinished_note.ensures
