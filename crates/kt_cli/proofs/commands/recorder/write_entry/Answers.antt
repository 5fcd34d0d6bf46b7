use Rattle.std.proofs.Common.{rules, false, is_err, ◌≡◌}
use Rattle.kt_cli.proofs.Common.{shows_both}
use Rattle.kt_cli.proofs.Saying.{says_on}
use Rattle.kt_cli.proofs.commands.recorder.write_entry.Goals as goal

pub returns : goal.returns
returns g c =
    let on : is_err c.args.written ≡ false = search rules in
    says_on on (shows_both (rw (c.as_slice.ensures, c.as_slice-2.ensures, c.as_slice-3.ensures, c.as_slice-4.ensures) at c.in_ok-emit_all.ensures) c.line.ensures)
