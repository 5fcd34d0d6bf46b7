use Rattle.std.proofs.Common.{◌∙◌}
use Rattle.kt_report.proofs.summary.write_counts.Goals as goal

pub returns : goal.returns
returns g c =
    let total = c.as_bytes.ensures ∙ c.new-total.ensures.value in
    let skipped = c.as_bytes-2.ensures ∙ c.decimal_count-skipped.ensures in
    let expected = c.as_bytes-3.ensures ∙ c.decimal_count-expected.ensures in
    let broken = c.as_bytes-4.ensures ∙ c.decimal_count-broken.ensures in
    let failed = c.as_bytes-5.ensures ∙ c.decimal_count-failed.ensures in
    rw (total, skipped, expected, broken, failed) at c.emit_all.ensures
