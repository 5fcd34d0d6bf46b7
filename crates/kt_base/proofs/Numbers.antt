-- A number does not decrease if digits are appended.
use Rattle.std.proofs.Common.{◌≡◌, ℕ, ◌+◌, ◌*◌, ◌-◌, ◌<◌, ◌≤◌, false, List, [], ◌∷◌, None, refl, ap, sym, ◌∙◌, arith, nat_le}
use Rattle.kt_base.proofs.Common.{nat_tests, decimal_from, number_up_to}

pub decimal_from-grows : (v : ℕ) (cs : List ℕ) → v ≤ decimal_from v cs
decimal_from-grows v [] = omega arith
decimal_from-grows v (c ∷ cs) = omega (arith, decimal_from-grows (10 * v + (c - 48)) cs)

not_up_to : (greatest n : ℕ) → greatest < n → nat_le n greatest ≡ false
not_up_to greatest n lt = grind (arith, nat_tests)

too_large : (greatest v : ℕ) (cs : List ℕ) → greatest < v → number_up_to greatest (decimal_from v cs) ≡ None
too_large greatest v cs lt = rw (not_up_to greatest (decimal_from v cs) (omega (arith, decimal_from-grows v cs))) refl

-- a number is above `greatest` if its first digits alone represent a number above `greatest`
pub overflows : (greatest v c : ℕ) (rest after digits : List ℕ) → rest ≡ c ∷ after → decimal_from v rest ≡ decimal_from 0 digits
    → greatest < 10 * v + (c - 48) → None ≡ number_up_to greatest (decimal_from 0 digits)
overflows greatest v c rest after digits parts so_far lt =
    let all : decimal_from (10 * v + (c - 48)) after ≡ decimal_from 0 digits = sym (ap (decimal_from v) parts) ∙ so_far in
    sym (too_large greatest (10 * v + (c - 48)) after lt) ∙ ap (number_up_to greatest) all
