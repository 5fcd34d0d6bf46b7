use Rattle.std.proofs.Common.{codes, sym, ◌∙◌}
use Rattle.kt_cli.proofs.Common.{encode, decimal, shows_as}
use Rattle.kt_base.proofs.Showing.{utf8_three}
use Rattle.kt_cli.proofs.commands.reporting.write_report_error.Goals as goal

pub returns-in-NoRuns : goal.returns-in-NoRuns
unfolding encode
returns-in-NoRuns g c = rw c.in-NoRuns.is c.emit.ensures

pub returns-in-NoRun : goal.returns-in-NoRun
unfolding encode
returns-in-NoRun g c =
    let digits = c.as_bytes.ensures ∙ c.new-digits.ensures.value ∙ sym c.new-digits.ensures.ascii in
    rw c.in-NoRun.is (shows_as (sym (utf8_three (codes "kyua: E: no run ") (decimal c.in-NoRun.number) (codes "\n"))) (rw digits at c.emit_all.ensures))
