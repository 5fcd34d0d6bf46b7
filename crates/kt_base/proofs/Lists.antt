-- Small facts on lists, numbers and results.
use Rattle.std.proofs.Common.{◌≡◌, ◌==◌, ◌+◌, ℕ, suc, true, List, ◌∷◌, take, drop, Result, Ok, Err, IsErrAnd, refl, sym, subst, arith}
use Rattle.kt_base.proofs.Common.{nat_tests}

-- `take` and `drop` of one more element move past the first element
pub take-one : (n b : ℕ) (rest : List ℕ) → take (1 + n) (b ∷ rest) ≡ b ∷ take n rest
take-one n b rest = let e : 1 + n ≡ suc n = omega arith in rw e refl

pub drop-one : (n b : ℕ) (rest : List ℕ) → drop (1 + n) (b ∷ rest) ≡ drop n rest
drop-one n b rest = let e : 1 + n ≡ suc n = omega arith in rw e refl

-- `==` is reflexive on numbers
pub same_number : (n : ℕ) → (n == n) ≡ true
same_number n = grind (arith, nat_tests)

-- a property of `Err fault` is a property of each result that is this error, as after `?`
pub error_is : {T E : Type 0} (P : Result T E → Type 0) (r : Result T E) (fault : E) → IsErrAnd r (λ x. x ≡ fault) → P (Err fault) → P r
error_is P (Ok done) fault is p = absurd is
error_is {T} {E} P (Err other) fault is p = subst (λ (f : E). P (Err f)) (sym is) p
