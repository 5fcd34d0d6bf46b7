-- The timeout of a case is 1 to 1,000,000 seconds.
use Rattle.std.proofs.Common.{◌≡◌, ℕ, Bool, true, false, List, [], ◌∷◌, ◌≤◌, arith, refl, Option, Some, None, codes, nat_le, if◌then◌else◌, ◌==◌}
use Rattle.kt_metadata.proofs.Common.{option_map, utf8, parsed_value, timeout_or_default}
use Rattle.std.proofs.lemmas.Bool.Decides.{nat_tests}
use Rattle.kt_metadata.specs.declared.value.Value.TheVariants.{Timeout}
use Rattle.kt_metadata.specs.Values.{timeout_of_number, digits_of, after_digits, number_of}

-- `IsTimeout seconds`: `seconds` is 1 to 1,000,000.
abbrev pub IsTimeout : ℕ → Type 0
IsTimeout seconds = (1 ≤ seconds) × (seconds ≤ 1000000)

timeout_of_number-within : (number : Option ℕ) (rest : List ℕ) → IsTimeout (timeout_or_default (option_map (λ n. Timeout n) (timeout_of_number number rest)))
timeout_of_number-within None rest = (omega arith, omega arith)
timeout_of_number-within (Some v) (c ∷ cs) = (omega arith, omega arith)
timeout_of_number-within (Some v) [] = by (v == 0) refl (nat_le v 1000000) refl
  where
    by : (is_zero : Bool) → (v == 0) ≡ is_zero → (is_few : Bool) → nat_le v 1000000 ≡ is_few
        → IsTimeout (timeout_or_default (option_map (λ n. Timeout n) (if is_zero then Some 1000000 else if is_few then Some v else None)))
    by true e few f = (omega arith, omega arith)
    by false e true f = (grind (arith, nat_tests, e), grind (arith, nat_tests, f))
    by false e false f = (omega arith, omega arith)

text-within : (texts : List ℕ → Option (List ℕ)) (text : Option (List ℕ)) → texts (codes "timeout") ≡ text → IsTimeout (timeout_or_default (parsed_value texts (codes "timeout")))
text-within texts None e = rw e (omega arith, omega arith)
text-within texts (Some text) e = rw e (timeout_of_number-within (number_of (digits_of (utf8 text))) (after_digits (utf8 text)))

pub timeout-within : (texts : List ℕ → Option (List ℕ)) → IsTimeout (timeout_or_default (parsed_value texts (codes "timeout")))
timeout-within texts = text-within texts (texts (codes "timeout")) refl
