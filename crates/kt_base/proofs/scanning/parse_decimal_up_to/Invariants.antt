use Rattle.std.proofs.Common.{◌≡◌, ◌≤◌, drop}
use Rattle.kt_base.proofs.Common.{decimal_from}
use Rattle.kt_base.proofs.scanning.parse_decimal_up_to.Given as goal

-- the digits of `value`, followed by the remaining digits, represent the number of all digits
abbrev pub invariant-loop-c : goal.invariant-loop-c
invariant-loop-c l = (decimal_from l.value (drop l.c-index l.digits) ≡ decimal_from 0 l.digits) × (l.value ≤ l.greatest)
