use Rattle.kt_status.proofs.BodyRows.{body_only}
use Rattle.kt_status.proofs.verdict.body_verdict.Goals as goal

pub returns-in-Atf : goal.returns-in-Atf
returns-in-Atf c = let it = body_only c.args.evidence c.args.outcome c.atf_verdict.result (rw c.in-Atf.is c.atf_verdict.ensures) in record { row = it.0; only = it.1 }

pub returns-in-Tap : goal.returns-in-Tap
returns-in-Tap c = let it = body_only c.args.evidence c.args.outcome c.tap_verdict.result (rw c.in-Tap.is c.tap_verdict.ensures) in record { row = it.0; only = it.1 }

pub returns-in-Plain : goal.returns-in-Plain
returns-in-Plain c = let it = body_only c.args.evidence c.args.outcome c.plain_verdict.result (rw c.in-Plain.is c.plain_verdict.ensures) in record { row = it.0; only = it.1 }
