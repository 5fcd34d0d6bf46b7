-- Lemmas on the number of cases at a position.
use Rattle.std.proofs.Common.{◌≡◌, ◌≢◌, ℕ, zero, suc, ◌+◌, ◌<◌, ◌≤◌, ◌==◌, ◌&&◌, List, [], ◌∷◌, ◌++◌, slice_get, map, Bool, true, false, Option, Some, None, refl, arith, if◌then◌else◌, nat_lt, ap, remove}
use Rattle.kt_child.proofs.Common.{nat_tests, Role, Body, Cleanup, CaseAttempt, is_same_role, count_at, one_if, occurrences, is_among, pending_with, launcher_child, find_launcher_child, is_last_child}
use Rattle.kt_sched.specs.Children.{Child as Shown}
use Rattle.kt_base.proofs.Lists.{same_number}
use Rattle.std.proofs.lemmas.Option.{same_Some}

-- `is_same_role` of a role and itself is `true`.
pub own_role : (r : Role) → is_same_role r r ≡ true
own_role Body = refl
own_role Cleanup = refl

-- `one_if b` is 1 if `b` is `true`, and otherwise 0.
pub one_if_is : (b : Bool) → one_if b ≡ (if b then 1 else 0)
one_if_is true = refl
one_if_is false = refl

-- Two numbers are different if `one_if` of their equality test is 0.
pub apart : (i j : ℕ) → one_if (i == j) ≡ 0 → i ≢ j
apart i j h e = let t : (i == j) ≡ true = grind (arith, nat_tests) in absurd (omega (arith, ap one_if t))

-- One step of `none_shown`: if the first case and the others have no child at a position in either
-- role, the position has the count 0.
count_step : (b : Bool) (role : Role) (s : Shown) (x y : Option Shown) (n : ℕ)
    → (x ≡ None → y ≡ None → n ≡ 0)
    → (if b && is_same_role Body role then Some s else x) ≡ None
    → (if b && is_same_role Cleanup role then Some s else y) ≡ None → one_if b + n ≡ 0
count_step true Body s x y n h p q = absurd (cc (p))
count_step true Cleanup s x y n h p q = absurd (cc (q))
count_step false role s x y n h p q = omega (arith, h p q)

-- If no case has a child at a position in either role (`find_launcher_child`), no case has this
-- position.
pub none_shown : (cases : List CaseAttempt) (i : ℕ) → find_launcher_child cases i Body ≡ None → find_launcher_child cases i Cleanup ≡ None → count_at i cases ≡ 0
none_shown [] i p q = refl
none_shown (c ∷ cases) i p q =
    count_step (i == c.position) c.role (launcher_child c) (find_launcher_child cases i Body) (find_launcher_child cases i Cleanup) (count_at i cases) (none_shown cases i) p q

-- A position has a case exactly if its count is above 0.
pub among_counts : (cases : List CaseAttempt) (k : ℕ) → is_among cases k ≡ nat_lt 0 (count_at k cases)
among_counts [] k = refl
among_counts (c ∷ cases) k = step (k == c.position) (is_among cases k) (count_at k cases) (among_counts cases k)
  where
    step : (b x : Bool) (n : ℕ) → x ≡ nat_lt 0 n → (if b then true else x) ≡ nat_lt 0 (one_if b + n)
    step b x n e = grind (arith, nat_tests, one_if_is b)

-- A position without a case has the count 0.
pub none_among : (cases : List CaseAttempt) (i : ℕ) → is_among cases i ≡ false → count_at i cases ≡ 0
none_among cases i p = grind (arith, nat_tests, among_counts cases i)

-- Counts of a number `n` among the values `f x` of a list.
module _ {X : Type 0} (f : X → ℕ) (n : ℕ) where
  -- Appending an element adds one to the count if its value is `n`.
  pub times_more : (xs : List X) (x : X) → occurrences n (map f (xs ++ x ∷ [])) ≡ occurrences n (map f xs) + one_if (n == f x)
  times_more [] x = omega arith
  times_more (y ∷ xs) x = omega (arith, times_more xs x)

  -- Removing an element takes one from the count if its value is `n`.
  pub times_less : (xs : List X) (p : ℕ) (x : X) → slice_get xs p ≡ Some x → occurrences n (map f (remove xs p)) + one_if (n == f x) ≡ occurrences n (map f xs)
  times_less [] p x h = absurd (cc (h))
  times_less (y ∷ xs) zero x h = omega (arith, ap (λ t. one_if (n == f t)) (same_Some y x h))
  times_less (y ∷ xs) (suc p) x h = omega (arith, times_less xs p x h)

-- The end of a child adds its case to the pending cases at most once.
pub times_owed : (f : CaseAttempt → ℕ) (n : ℕ) (owed : List CaseAttempt) (c : CaseAttempt) → occurrences n (map f (pending_with c owed)) ≤ occurrences n (map f owed) + one_if (n == f c)
times_owed f n owed c = by (is_last_child c)
  where
    by : (t : Bool) → occurrences n (map f (if t then owed else owed ++ c ∷ [])) ≤ occurrences n (map f owed) + one_if (n == f c)
    by true = omega arith
    by false = omega (arith, times_more f n owed c)

-- `position c`: the position of the case `c`.
abbrev pub position : CaseAttempt → ℕ
position c = c.position

-- The position of a case in a list has a count above 0.
pub count_there : (cases : List CaseAttempt) (p : ℕ) (c : CaseAttempt) → slice_get cases p ≡ Some c → 0 < count_at c.position cases
count_there cases p c h = omega (arith, times_less position c.position cases p c h, ap one_if (same_number c.position))

-- Positions with an equality test of `true` are equal.
pub same_position : (a b : ℕ) → (a == b) ≡ true → a ≡ b
same_position a b h = grind (arith, nat_tests)
