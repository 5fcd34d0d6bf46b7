-- Lemmas on `find_launcher_child`, by which contracts see the running children.
use Rattle.std.proofs.Common.{◌≡◌, ◌≢◌, ℕ, zero, suc, ◌≤◌, ◌==◌, ◌&&◌, List, [], ◌∷◌, ◌++◌, slice_get, Bool, Option, Some, None, refl, ◌∙◌, ap, arith, if◌then◌else◌, remove}
use Rattle.kt_child.proofs.Common.{nat_tests, Role, CaseAttempt, is_same_role, count_at, one_if, launcher_child, find_launcher_child}
use Rattle.kt_sched.specs.Children.{Child as Shown}
use Rattle.kt_child.proofs.CaseCounts.{apart, count_there, own_role, position, times_less}
use Rattle.kt_base.proofs.Lists.{same_number}
use Rattle.std.proofs.lemmas.Option.{same_Some}

-- `is_at c k r`: the case `c` is at the position `k` in the role `r`.
abbrev is_at : CaseAttempt → ℕ → Role → Bool
is_at c k r = k == c.position && is_same_role r c.role

-- Two tests for cases at different positions can be exchanged.
swap_tests : {X : Type 0} (c d : CaseAttempt) (k : ℕ) (r : Role) (x y z : X) → c.position ≢ d.position
    → (if is_at d k r then x else (if is_at c k r then y else z)) ≡ (if is_at c k r then y else (if is_at d k r then x else z))
swap_tests c d k r x y z h = grind (arith, nat_tests)

-- The test for a case at another position is `false`.
skip_test : {X : Type 0} (c : CaseAttempt) (k : ℕ) (r : Role) (x y : X) → k ≢ c.position → (if is_at c k r then x else y) ≡ y
skip_test c k r x y h = grind (arith, nat_tests)

-- Appending a case at a free position adds its child and changes no other child.
pub shown_append : (cases : List CaseAttempt) (c : CaseAttempt) (k : ℕ) (r : Role) → count_at c.position cases ≡ 0
    → find_launcher_child (cases ++ c ∷ []) k r ≡ (if is_at c k r then Some (launcher_child c) else find_launcher_child cases k r)
shown_append [] c k r h = refl
shown_append (d ∷ cases) c k r h =
    ap (λ t. if is_at d k r then Some (launcher_child d) else t) (shown_append cases c k r (omega arith))
    ∙ swap_tests c d k r (Some (launcher_child d)) (Some (launcher_child c)) (find_launcher_child cases k r) (apart c.position d.position (omega arith))

-- There is no child at a position without a case.
pub not_shown : (cases : List CaseAttempt) (k : ℕ) (r : Role) → count_at k cases ≡ 0 → find_launcher_child cases k r ≡ None
not_shown [] k r h = refl
not_shown (c ∷ cases) k r h =
    skip_test c k r (Some (launcher_child c)) (find_launcher_child cases k r) (apart k c.position (omega arith)) ∙ not_shown cases k r (omega arith)

-- If the first case is at `k` and is removed, there is no child at `k` in its role.
first_test : (c : CaseAttempt) (k : ℕ) (r : Role) (x y : Option Shown) → (k ≡ c.position → y ≡ None)
    → y ≡ (if is_at c k r then None else (if is_at c k r then x else y))
first_test c k r x y h = grind (arith, nat_tests)

-- Removing a case removes its child and changes no other child.
pub shown_remove : (cases : List CaseAttempt) (p : ℕ) (c : CaseAttempt) (k : ℕ) (r : Role) → slice_get cases p ≡ Some c → count_at c.position cases ≤ 1
    → find_launcher_child (remove cases p) k r ≡ (if is_at c k r then None else find_launcher_child cases k r)
shown_remove [] p c k r h once = absurd (cc (h))
shown_remove (d ∷ cases) zero c k r h once =
    let less = times_less position c.position (d ∷ cases) 0 c h in
    let z : count_at c.position cases ≡ 0 = omega (arith, less, ap one_if (same_number c.position)) in
    rw (same_Some d c h)
    (first_test c k r (Some (launcher_child c)) (find_launcher_child cases k r) (λ at. not_shown cases k r (ap (λ n. count_at n cases) at ∙ z)))
shown_remove (d ∷ cases) (suc p) c k r h once =
    let there = count_there cases p c h in
    ap (λ t. if is_at d k r then Some (launcher_child d) else t) (shown_remove cases p c k r h (omega arith))
    ∙ swap_tests c d k r (Some (launcher_child d)) None (find_launcher_child cases k r) (apart c.position d.position (omega (arith, there)))

-- The child of the case at the index `p` is at the position of this case, in its role.
pub shown_there : (cases : List CaseAttempt) (p : ℕ) (c : CaseAttempt) → slice_get cases p ≡ Some c → count_at c.position cases ≤ 1
    → find_launcher_child cases c.position c.role ≡ Some (launcher_child c)
shown_there [] p c h once = absurd (cc (h))
shown_there (d ∷ cases) zero c h once = rw (same_Some d c h, same_number c.position, own_role c.role) refl
shown_there (d ∷ cases) (suc p) c h once =
    let there = count_there cases p c h in
    skip_test d c.position c.role (Some (launcher_child d)) (find_launcher_child cases c.position c.role) (apart c.position d.position (omega (arith, there)))
    ∙ shown_there cases p c h (omega arith)
