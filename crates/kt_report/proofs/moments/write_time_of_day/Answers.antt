use Rattle.kt_report.proofs.moments.write_time_of_day.Goals as goal

pub returns : goal.returns
returns g c = rw (c.two_digits-hours.ensures, c.two_digits-minutes.ensures, c.two_digits-seconds.ensures, c.three_digits-rest.ensures) at c.emit_all.ensures
