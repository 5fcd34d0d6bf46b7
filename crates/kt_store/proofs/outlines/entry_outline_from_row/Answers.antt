use Rattle.kt_store.proofs.Common.{Int, ap, column, kind_code, pos, refl, sym, ◌∙◌, ◌≡◌}
use Rattle.kt_store.proofs.outlines.entry_outline_from_row.Goals as goal

pub returns : goal.returns
returns c e more sound is =
    let position : c.in_ok-position.position ≡ e.position = let q : Int (pos c.in_ok-position.position) ≡ Int (pos e.position) = sym c.in_ok-position.ensures.value ∙ ap (λ l. column l 0) is in cc in
    let program : c.in_ok-program.program ≡ e.program = c.in_ok-program.ensures.text e.program sound.program (ap (λ l. column l 1) is) in
    let case_name : c.in_ok-case_name.case_name ≡ e.case_name = c.in_ok-case_name.ensures.text e.case_name sound.case_name (ap (λ l. column l 2) is) in
    let kind : c.in_ok-kind.kind ≡ e.verdict.kind = let code : Int (pos c.in_ok-code.code) ≡ Int (pos (kind_code e.verdict.kind)) = sym c.in_ok-code.ensures.value ∙ ap (λ l. column l 3) is in let known = c.kind_from_code.ensures e.verdict.kind (cc) in let there = c.in_ok-kind.ensures.there in cc in
    let reason : c.in_ok-reason.reason ≡ e.verdict.reason = c.in_ok-reason.ensures.text e.verdict.reason sound.reason (ap (λ l. column l 4) is) in
    let verdict : c.from_kind.result ≡ e.verdict = c.from_kind.ensures (λ passed. reason ∙ sound.passed (sym kind ∙ passed)) ∙ rw (kind, reason) refl in
    let started : c.in_ok-started.started ≡ e.started = let q : Int (pos c.in_ok-started.started) ≡ Int (pos e.started) = sym c.in_ok-started.ensures.value ∙ ap (λ l. column l 5) is in cc in
    let millis : c.in_ok-millis.millis ≡ e.millis = let q : Int (pos c.in_ok-millis.millis) ≡ Int (pos e.millis) = sym c.in_ok-millis.ensures.value ∙ ap (λ l. column l 6) is in cc in
    rw (position, program, case_name, verdict, started, millis, c.empty_output.ensures, c.empty_output-2.ensures, c.new.ensures) refl
