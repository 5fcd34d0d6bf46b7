-- Days counted from the first of January 1970.
use Rattle.std.proofs.Common.{arith, ◌≡◌, ℕ, ◌<◌, ℤ, pos, ◌∙◌, ◌+ℤ◌, ◌-ℤ◌}
use Rattle.kt_report.proofs.Common.{Date, Day, IsOnly}
use Rattle.jiff.proofs.SpanFacts.{signed_arith, date_add-days, can_add-days}
use Rattle.jiff_core.specs.declared.span.Span.{Span}
use Rattle.jiff_core.specs.Calendar.{day_count, days_from_civil, IsEpochDay}
use Rattle.jiff_core.specs.Date.{epoch_day}
use Rattle.jiff.specs.Words.{CanAddToDate, date_add}

none : (n : ℕ) → pos n -ℤ pos n ≡ pos 0
none n = omega (arith, signed_arith)

civil : (y : ℤ) (m d : ℕ) → y ≡ pos 1970 → m ≡ 1 → d ≡ 1 → days_from_civil y m d ≡ pos 0
unfolding days_from_civil
civil y m d a b c = rw (a, b, c) (none (day_count (pos 1970) 1 1))

pub first_day : (d : Date) → d.year ≡ pos 1970 → pos d.month ≡ pos 1 → pos d.day ≡ pos 1 → epoch_day d ≡ pos 0
first_day d y m n = civil d.year d.month d.day y (cc) (cc)

pub days_after : (d : Date) (s : Span) (n : ℕ) → epoch_day d ≡ pos 0 → n < 2932897 → IsOnly Day (pos n) s → CanAddToDate d s × (date_add d s ≡ pos n)
days_after d s n first small only =
    let sum : epoch_day d +ℤ pos n ≡ pos n = rw first (omega (arith, signed_arith)) in
    let within : IsEpochDay (epoch_day d +ℤ pos n) = rw sum (omega (arith, signed_arith), omega (arith, signed_arith)) in
    ((can_add-days d (pos n) s only).1 within, date_add-days d (pos n) s only ∙ sum)
