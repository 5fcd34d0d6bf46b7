use Rattle.std.proofs.Common.{rules, false, is_err, ◌≡◌}
use Rattle.kt_cli.proofs.Common.{shows_both}
use Rattle.kt_cli.proofs.Saying.{says_on}
use Rattle.kt_cli.proofs.commands.testing.write_totals_and_warnings.Goals as goal

pub returns : goal.returns
returns g c =
    let on : is_err c.args.written ≡ false = search rules in
    says_on on (shows_both c.in_ok-write_totals.ensures c.write_warnings.ensures)
