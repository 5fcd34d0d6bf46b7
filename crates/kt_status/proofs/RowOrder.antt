-- The first row that fits.
use Rattle.std.proofs.Common.{◌≡◌, ℕ, ◌<◌, ◌≤◌, Bool, true, false, refl, sym, arith, nat_eq, if◌then◌else◌}
use Rattle.kt_status.proofs.Common.{eqb-true, eq-eqb, VerdictValue, IsFirstRow}

-- ---- numbers of rows

-- `at_or_next t n m`: the row `n` if the test `t` passes, otherwise the row `m`.
abbrev pub at_or_next : Bool → ℕ → ℕ → ℕ
at_or_next t n m = if t then n else m

-- ---- two rows and a test

-- The row that the test of `a` and `b` selects fits, if `n` fits when they are equal and `m` always
-- fits.
pub at_equal : (n m a b : ℕ) (x y : VerdictValue) (P : ℕ → VerdictValue → Type 0) → (a ≡ b → P n x) → P m y → P (at_or_next (nat_eq a b) n m) (if nat_eq a b then x else y)
at_equal n m a b x y P here next = at_test (nat_eq a b) (λ e. here (eqb-true a b e)) next where
  at_test : (t : Bool) → (t ≡ true → P n x) → P m y → P (at_or_next t n m) (if t then x else y)
  at_test true here next = here refl
  at_test false here next = next

-- `IsLeastRow first verdict n v`: the row `n`, which gives the verdict `v`, is not before the row
-- `first`. If it is the row `first`, `v` is `verdict`.
abbrev pub IsLeastRow : ℕ → VerdictValue → ℕ → VerdictValue → Type 0
IsLeastRow first verdict n v = (first ≤ n) × (n ≡ first → v ≡ verdict)

-- If `a` and `b` are equal, the row `n`, which requires this, is the first row that fits.
pub passes : (n m a b : ℕ) (x y : VerdictValue) → a ≡ b → IsLeastRow (at_or_next (nat_eq a b) n m) (if nat_eq a b then x else y) n x
passes n m a b x y is = rw (eq-eqb a b is) (omega arith, λ e. refl)

-- The row `m` is not before the first row that fits, if it is after the row `n`, which requires
-- that `a` and `b` are equal.
pub next : (n m a b : ℕ) (x y : VerdictValue) → n < m → IsLeastRow (at_or_next (nat_eq a b) n m) (if nat_eq a b then x else y) m y
next n m a b x y lt = at_test (nat_eq a b) n m x y lt where
  at_test : (t : Bool) (n m : ℕ) (x y : VerdictValue) → n < m → IsLeastRow (at_or_next t n m) (if t then x else y) m y
  at_test true n m x y lt = (omega arith, λ e. absurd (omega arith))
  at_test false n m x y lt = (omega arith, λ e. refl)

-- The row `n` is not before itself and gives its own verdict.
pub here : (n : ℕ) (v : VerdictValue) → IsLeastRow n v n v
here n v = (omega arith, λ e. refl)

-- ---- from rows to verdicts

-- `IsOnly Row v`: the first row of the table `Row` that fits gives the verdict `v` and no other
-- verdict.
abbrev pub IsOnly : (ℕ → VerdictValue → Type 0) → VerdictValue → Type 0
IsOnly Row v = IsFirstRow Row v × ((other : VerdictValue) → IsFirstRow Row other → v ≡ other)

pub only : (Row : ℕ → VerdictValue → Type 0) (n : ℕ) (v : VerdictValue) → Row n v → ((m : ℕ) (x : VerdictValue) → Row m x → IsLeastRow n v m x) → IsOnly Row v
only Row n v fits least = (
  record { number = n; fits = fits; first = λ m x h. (least m x h).0 },
  λ other h. sym ((least h.number other h.fits).1 (omega (arith, h.first n v fits, (least h.number other h.fits).0))),
)
