use Rattle.std.proofs.Common.{slice_get, ℕ, List}
use Rattle.kt_cli.proofs.Common.{shows_as, shows_error, utf8, shows_cut_off, shows_whole, warning_at}
use Rattle.kt_cli.proofs.Utf8Sums.{utf8_flat_map}
use Rattle.kt_cli.proofs.messages.write_warnings.Goals as goal

-- `warned words position`: the warning about the filter at index `position` of `words`
abbrev warned : List (List ℕ) → ℕ → List ℕ
warned words position = warning_at (slice_get words position)

pub returns-in_err-write_warning_at : goal.returns-in_err-write_warning_at
returns-in_err-write_warning_at g c =
    let words = c.as_slice-words.result.now in
    let positions = c.args.unmatched.now in
    let whole = shows_cut_off (λ (p : ℕ). utf8 (warned words p)) positions c.loop-position.position-index _ c.loop-position-test.true c.loop-position.invariant c.in_err-write_warning_at.ensures in
    rw (← c.as_slice-words.ensures) (shows_error _ _ c.from_residual.ensures.1 (shows_as (utf8_flat_map (warned words) positions) whole))

pub returns : goal.returns
returns g c =
    let words = c.as_slice-words.result.now in
    let positions = c.args.unmatched.now in
    let whole = shows_whole (λ (p : ℕ). utf8 (warned words p)) positions c.loop-position.position-index c.loop-position-test.false c.loop-position.invariant in
    rw (← c.as_slice-words.ensures) (shows_as (utf8_flat_map (warned words) positions) whole)
