use Rattle.kt_report.proofs.Runs.{lossy_utf8}
use Rattle.kt_report.proofs.escaping.push_escaped_output.Goals as goal

pub returns-in-Ok : goal.returns-in-Ok
returns-in-Ok c =
    let cases = c.in-Ok.ensures.cases in
    rw (lossy_utf8 c.args.bytes.now cases.1, ← cases.0) c.push_escaped_text.ensures
