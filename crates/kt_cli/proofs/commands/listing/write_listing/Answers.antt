use Rattle.std.proofs.Common.{◌≡◌, ◌++◌, codes, ap, sym, ◌∙◌, flat_map}
use Rattle.kt_base.proofs.Showing.{utf8_four}
use Rattle.kt_report.proofs.InTurn.{shows_next}
use Rattle.kt_cli.proofs.Common.{encode, shows_as, shows_both, shows_error, shows_more, utf8, Candidate, shows_cut_off, shows_whole, case_line, warnings}
use Rattle.kt_cli.proofs.Utf8Sums.{utf8_flat_map}
use Rattle.kt_cli.proofs.commands.listing.write_listing.Goals as goal

-- the parts of a case's line, in UTF-8, are the bytes of `case_line`
line_is : (k : Candidate) → utf8 k.path ++ codes ":" ++ utf8 k.case.name ++ codes "\n" ≡ utf8 (case_line k)
unfolding encode
line_is k = sym (utf8_four k.path (codes ":") k.case.name (codes "\n"))

pub returns-in_err-emit_all : goal.returns-in_err-emit_all
returns-in_err-emit_all g c =
    let cases = c.as_slice-case-items in
    let line = shows_as (line_is c.case-item.result ∙ ap (λ (k : Candidate). utf8 (case_line k)) c.case-item.is)
    (rw (c.as_bytes.ensures, c.as_bytes-name.ensures) at c.in_err-emit_all.ensures) in
    let cut = shows_cut_off (λ (k : Candidate). utf8 (case_line k)) cases.result.now c.loop-case.case-index _ c.loop-case-test.true c.loop-case.invariant line in
    let lines = shows_as (utf8_flat_map case_line cases.result.now ∙ ap (λ ks. utf8 (flat_map case_line ks)) cases.ensures) cut in
    shows_error _ _ c.from_residual.ensures.1 (shows_more (utf8 (warnings c.args.options.now.filters c.args.chosen.now.unmatched)) lines)

pub loop-case-preserved : goal.loop-case-preserved
loop-case-preserved g c =
    let line = shows_as (line_is c.case-item.result ∙ ap (λ (k : Candidate). utf8 (case_line k)) c.case-item.is)
    (rw (c.as_bytes.ensures, c.as_bytes-name.ensures) at c.in_ok-emit_all.ensures) in
    shows_next (λ (k : Candidate). utf8 (case_line k)) c.as_slice-case-items.result.now c.loop-case.case-index _ c.loop-case-test.true c.loop-case.invariant line

pub returns : goal.returns
returns g c =
    let cases = c.as_slice-case-items in
    let whole = shows_whole (λ (k : Candidate). utf8 (case_line k)) cases.result.now c.loop-case.case-index c.loop-case-test.false c.loop-case.invariant in
    shows_both (shows_as (utf8_flat_map case_line cases.result.now ∙ ap (λ ks. utf8 (flat_map case_line ks)) cases.ensures) whole) (rw (c.as_slice.ensures) at c.write_warnings.ensures)
