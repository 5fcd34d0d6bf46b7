use Rattle.std.proofs.Common.{is_err, ap, ◌∙◌, List, ℕ}
use Rattle.kt_cli.proofs.Common.{chars, shows_as, utf8}
use Rattle.kt_cli.proofs.FaultMessages.{chars-driver}
use Rattle.kt_cli.specs.FaultLines.{fault_line}
use Rattle.kt_cli.proofs.messages.print_driver_fault.Goals as goal

pub returns : goal.returns
returns g c = record {
  failed = is_err c.write_error_line.result;
  shows = shows_as (ap (λ (words : List ℕ). utf8 (fault_line words)) (ap chars c.message.ensures ∙ chars-driver c.args.fault)) c.write_error_line.ensures;
  exits = c.exit_after_write.ensures;
}
