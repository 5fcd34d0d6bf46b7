use Rattle.std.proofs.Common.{codes, sym, ◌∙◌}
use Rattle.kt_cli.proofs.Common.{encode, decimal, shows_as}
use Rattle.kt_cli.proofs.Utf8Sums.{utf8_seven}
use Rattle.kt_cli.proofs.commands.testing.write_totals.Goals as goal

pub returns : goal.returns
unfolding encode
returns g c =
    let passed = c.as_bytes.ensures ∙ c.new-passed.ensures.value ∙ sym c.new-passed.ensures.ascii in
    let all = c.as_bytes-2.ensures ∙ c.new-all.ensures.value ∙ sym c.new-all.ensures.ascii in
    let failed = c.as_bytes-3.ensures ∙ c.new-failed.ensures.value ∙ sym c.new-failed.ensures.ascii in
    let whole = utf8_seven (codes "\n") (decimal c.args.good) (codes "/") (decimal c.args.total) (codes " passed (") (decimal c.args.bad) (codes " failed)\n") in
    shows_as (sym whole) (rw (passed, all, failed) at c.emit_all.ensures)
