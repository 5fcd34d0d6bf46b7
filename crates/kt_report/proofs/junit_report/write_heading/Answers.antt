use Rattle.std.proofs.Common.{ap, length, ◌∙◌}
use Rattle.kt_report.proofs.Common.{decimal, Skipped, Failed, Broken, kind_count_bytes}
use Rattle.kt_report.proofs.junit_report.write_heading.Goals as goal

pub returns : goal.returns
returns g c =
    let e = c.as_slice-entries.ensures in
    let tests = c.as_bytes.ensures ∙ c.new-tests.ensures.value ∙ ap (λ es. decimal (length es)) e in
    let failures = c.as_bytes-2.ensures ∙ c.decimal_count-failures.ensures ∙ ap (kind_count_bytes Failed) e in
    let errors = c.as_bytes-3.ensures ∙ c.decimal_count-errors.ensures ∙ ap (kind_count_bytes Broken) e in
    let skipped = c.as_bytes-4.ensures ∙ c.decimal_count-skipped.ensures ∙ ap (kind_count_bytes Skipped) e in
    rw (tests, failures, errors, skipped) at c.emit_all.ensures
