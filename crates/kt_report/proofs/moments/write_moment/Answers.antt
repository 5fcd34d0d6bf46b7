use Rattle.std.proofs.Common.{ℕ, ◌%◌, ap, codes}
use Rattle.kt_report.proofs.Common.{time_of_day_bytes, printable_moment, shows_as, shows_both, shows_error, shows_more}
use Rattle.kt_report.proofs.moments.write_moment.Goals as goal

pub returns-in_err-write_date : goal.returns-in_err-write_date
returns-in_err-write_date g c =
    shows_error _ _ c.from_residual.ensures.1 (shows_more (codes "Z") (shows_more (time_of_day_bytes (printable_moment c.args.moment % 86400000)) (shows_more (codes "T") c.in_err-write_date.ensures)))

pub returns-in_err-emit : goal.returns-in_err-emit
returns-in_err-emit g c =
    shows_error _ _ c.from_residual-in_err-emit.ensures.1 (shows_more (codes "Z") (shows_more (time_of_day_bytes (printable_moment c.args.moment % 86400000)) (shows_both c.in_ok-write_date.ensures c.in_err-emit.ensures)))

pub returns-in_err-write_time_of_day : goal.returns-in_err-write_time_of_day
returns-in_err-write_time_of_day g c =
    shows_error _ _ c.from_residual-in_err-write_time_of_day.ensures.1 (shows_more (codes "Z") (shows_both (shows_both c.in_ok-write_date.ensures c.in_ok-emit.ensures) (shows_as (ap (λ (m : ℕ). time_of_day_bytes (m % 86400000)) c.printable_moment.ensures) c.in_err-write_time_of_day.ensures)))

pub returns : goal.returns
returns g c =
    shows_both (shows_both (shows_both c.in_ok-write_date.ensures c.in_ok-emit.ensures) (shows_as (ap (λ (m : ℕ). time_of_day_bytes (m % 86400000)) c.printable_moment.ensures) c.in_ok-write_time_of_day.ensures)) c.emit-2.ensures
