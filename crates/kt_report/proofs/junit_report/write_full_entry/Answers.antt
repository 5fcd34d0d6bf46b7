use Rattle.std.proofs.Common.{ap, ◌∙◌}
use Rattle.kt_report.proofs.Common.{shows_as, shows_error, shows_nothing, case_element}
use Rattle.kt_report.specs.Cases.{case_texts, with_outputs}
use Rattle.kt_report.proofs.junit_report.write_full_entry.Goals as goal

pub returns-in_err-texts : goal.returns-in_err-texts
returns-in_err-texts g c = shows_error _ _ c.from_residual.ensures.1 (shows_nothing _ _)

pub returns-in_err-write_case_element : goal.returns-in_err-write_case_element
returns-in_err-write_case_element g c =
    let e = with_outputs c.args.entry.now c.args.body.now c.args.cleanup.now in
    let texts = ap (λ t. case_element t c.kind.result e.millis) c.in_ok-texts.ensures in
    let kind = ap (λ k. case_element (case_texts e) k e.millis) c.kind.ensures in
    shows_error _ _ c.from_residual-in_err-write_case_element.ensures.1 (shows_as (texts ∙ kind) c.in_err-write_case_element.ensures)

pub returns : goal.returns
returns g c =
    let e = with_outputs c.args.entry.now c.args.body.now c.args.cleanup.now in
    let texts = ap (λ t. case_element t c.kind.result e.millis) c.in_ok-texts.ensures in
    let kind = ap (λ k. case_element (case_texts e) k e.millis) c.kind.ensures in
    shows_as (texts ∙ kind) c.in_ok-write_case_element.ensures
