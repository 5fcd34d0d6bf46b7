use Rattle.std.proofs.Common.{◌≡◌, false, is_err, ap, ◌∙◌, List, ℕ}
use Rattle.kt_cli.proofs.Common.{chars, shows_as, utf8}
use Rattle.kt_cli.proofs.FaultMessages.{chars-run}
use Rattle.kt_cli.proofs.Saying.{says_on}
use Rattle.kt_cli.specs.FaultLines.{fault_line}
use Rattle.kt_cli.proofs.messages.write_run_fault.Goals as goal

pub returns : goal.returns
returns g c =
    let on : is_err c.args.written ≡ false = ap is_err c.in_ok-written.was in
    says_on on (shows_as (ap (λ (words : List ℕ). utf8 (fault_line words)) (ap chars c.message.ensures ∙ chars-run c.args.fault)) c.write_error_line.ensures)
