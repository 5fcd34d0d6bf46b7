use Rattle.std.proofs.Common.{ap, ◌∙◌, codes, sum_by}
use Rattle.kt_report.proofs.Common.{Entry, seconds_bytes, totals_bytes, shows_as, shows_both, shows_error, shows_more}
use Rattle.kt_report.proofs.summary.write_summary.Goals as goal

pub returns-in_err-write_summary_title : goal.returns-in_err-write_summary_title
returns-in_err-write_summary_title g c =
    shows_error _ _ c.from_residual.ensures.1 (shows_more (codes "s\n") (shows_more (seconds_bytes (sum_by (λ (e : Entry). e.millis) c.args.run.now.entries)) (shows_more (codes "Total time: ") (shows_more (totals_bytes c.args.run.now.entries) c.in_err-write_summary_title.ensures))))

pub returns-in_err-write_counts : goal.returns-in_err-write_counts
returns-in_err-write_counts g c =
    shows_error _ _ c.from_residual-in_err-write_counts.ensures.1 (shows_more (codes "s\n") (shows_more (seconds_bytes (sum_by (λ (e : Entry). e.millis) c.args.run.now.entries)) (shows_more (codes "Total time: ") (shows_both c.in_ok-write_summary_title.ensures (shows_as (ap totals_bytes c.as_slice-entries.ensures) c.in_err-write_counts.ensures)))))

pub returns-in_err-emit : goal.returns-in_err-emit
returns-in_err-emit g c =
    shows_error _ _ c.from_residual-in_err-emit.ensures.1 (shows_more (codes "s\n") (shows_more (seconds_bytes (sum_by (λ (e : Entry). e.millis) c.args.run.now.entries)) (shows_both (shows_both c.in_ok-write_summary_title.ensures (shows_as (ap totals_bytes c.as_slice-entries.ensures) c.in_ok-write_counts.ensures)) c.in_err-emit.ensures)))

pub returns-in_err-write_seconds : goal.returns-in_err-write_seconds
returns-in_err-write_seconds g c =
    shows_error _ _ c.from_residual-in_err-write_seconds.ensures.1 (shows_more (codes "s\n") (shows_both (shows_both (shows_both c.in_ok-write_summary_title.ensures (shows_as (ap totals_bytes c.as_slice-entries.ensures) c.in_ok-write_counts.ensures)) c.in_ok-emit.ensures) (shows_as (ap seconds_bytes (c.total_millis.ensures ∙ ap (sum_by (λ (e : Entry). e.millis)) c.as_slice-entries.ensures)) c.in_err-write_seconds.ensures)))

pub returns : goal.returns
returns g c =
    shows_both (shows_both (shows_both (shows_both c.in_ok-write_summary_title.ensures (shows_as (ap totals_bytes c.as_slice-entries.ensures) c.in_ok-write_counts.ensures)) c.in_ok-emit.ensures) (shows_as (ap seconds_bytes (c.total_millis.ensures ∙ ap (sum_by (λ (e : Entry). e.millis)) c.as_slice-entries.ensures)) c.in_ok-write_seconds.ensures)) c.emit-2.ensures
