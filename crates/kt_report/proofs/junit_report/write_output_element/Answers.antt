use Rattle.std.proofs.Common.{sym, ◌∙◌}
use Rattle.kt_report.proofs.Common.{shows_as, shows_none}
use Rattle.kt_report.proofs.Outputs.{no_output, some_output}
use Rattle.kt_report.proofs.junit_report.write_output_element.Goals as goal

pub returns-then-is_empty : goal.returns-then-is_empty
returns-then-is_empty g c = shows_as (no_output c.args.name.now c.args.text.now c.as_bytes-bytes.result.now c.as_bytes-bytes.ensures (sym c.is_empty.ensures ∙ c.if-is_empty.true)) shows_none

pub returns : goal.returns
returns g c =
    let whole = some_output c.args.name.now c.args.text.now c.as_bytes-bytes.result.now c.as_bytes-bytes.ensures (sym c.is_empty.ensures ∙ c.if-is_empty.false) in
    shows_as whole (rw c.as_bytes-bytes.ensures at c.emit_all.ensures)
