use Rattle.std.proofs.Common.{ap, ◌∙◌, List, ℕ}
use Rattle.kt_cli.proofs.Common.{chars, shows_as, utf8}
use Rattle.kt_cli.proofs.FaultMessages.{chars-store}
use Rattle.kt_cli.specs.FaultLines.{fault_line}
use Rattle.kt_cli.proofs.messages.write_store_error.Goals as goal

pub returns : goal.returns
returns g c = shows_as (ap (λ (words : List ℕ). utf8 (fault_line words)) (ap chars c.message.ensures ∙ chars-store c.args.fault)) c.write_error_line.ensures
