use Rattle.std.proofs.Common.{◌≡◌, ◌≢◌, ℕ, List, ◌++◌, refl, ap, codes}
use Rattle.kt_report.proofs.Common.{Kind, Passed, utf8, shows_as, shows_both, shows_error, shows_more, printable_reason}
use Rattle.kt_report.proofs.entry_line.write_reason.Goals as goal

told : (kind other : Kind) (reason : List ℕ) → kind ≢ Passed → kind ≡ other → codes ": " ++ utf8 reason ≡ printable_reason other reason
told Passed other reason n e = absurd (n refl)
told kind other reason n e = ap (λ (k : Kind). printable_reason k reason) e

pub returns-in_err-emit-in_default : goal.returns-in_err-emit-in_default
returns-in_err-emit-in_default g c =
    let v = c.args.verdict.now in
    shows_error _ _ c.from_residual.ensures.1 (shows_as (told c.kind.result v.kind v.reason c.in_default.not-Passed c.kind.ensures) (shows_more (utf8 v.reason) c.in_err-emit-in_default.ensures))

pub returns-in_ok-emit-in_default : goal.returns-in_ok-emit-in_default
returns-in_ok-emit-in_default g c =
    let v = c.args.verdict.now in
    shows_as (told c.kind.result v.kind v.reason c.in_default.not-Passed c.kind.ensures) (shows_both c.in_ok-emit-in_default.ensures c.print_reason.ensures)
