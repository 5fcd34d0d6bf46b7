-- Lemmas on the cases with a pending cleanup.
use Rattle.std.proofs.Common.{◌≡◌, ℕ, ◌≤◌, ◌==◌, ◌&&◌, List, [], ◌∷◌, ◌++◌, slice_get, Bool, true, false, Some, refl, ◌∙◌, ap, arith, if◌then◌else◌, remove}
use Rattle.kt_child.proofs.Common.{nat_tests, Role, Body, Cleanup, CaseAttempt, is_same_role, has_declared_cleanup, count_at, is_among, pending_with, launcher_child, find_launcher_child, is_last_child}
use Rattle.kt_child.proofs.CaseCounts.{among_counts, one_if_is, position, same_position, times_less, times_more}

-- The positions of `cases` with `c` appended are those of `cases` and that of `c`.
pub among_append : (cases : List CaseAttempt) (c : CaseAttempt) (k : ℕ) → is_among (cases ++ c ∷ []) k ≡ (if k == c.position then true else is_among cases k)
among_append cases c k =
    grind (arith, nat_tests, among_counts (cases ++ c ∷ []) k, among_counts cases k, times_more position k cases c, one_if_is (k == c.position))

-- After a body with a declared cleanup has ended, its case is pending; the others are unchanged.
pub among_owed : (cases pending : List CaseAttempt) (c : CaseAttempt) (k : ℕ) → find_launcher_child cases c.position c.role ≡ Some (launcher_child c)
    → is_among (pending_with c pending) k
    ≡ (if k == c.position && (is_same_role c.role Body && has_declared_cleanup (find_launcher_child cases c.position Body)) then true else is_among pending k)
among_owed cases pending c k e =
    if_over (is_last_child c)
    ∙ owed (k == c.position) (is_same_role c.role Body) c.cleanup _ (is_among pending k) _ (declared c.role e) (among_append pending c k)
  where
    if_over : (t : Bool) → is_among (if t then pending else pending ++ c ∷ []) k ≡ (if t then is_among pending k else is_among (pending ++ c ∷ []) k)
    if_over true = refl
    if_over false = refl

    declared : (r : Role) → find_launcher_child cases c.position r ≡ Some (launcher_child c) → is_same_role r Body ≡ true
        → has_declared_cleanup (find_launcher_child cases c.position Body) ≡ c.cleanup
    declared Body at is = ap has_declared_cleanup at
    declared Cleanup at is = absurd (cc)

    owed : (b body cleanup shows x y : Bool) → (body ≡ true → shows ≡ cleanup) → y ≡ (if b then true else x)
        → (if (if body && cleanup then false else true) then x else y) ≡ (if b && (body && shows) then true else x)
    owed b body cleanup shows x y h e = grind (arith, nat_tests)

-- Removing the case `c` from `cases` removes its position and no other.
pub among_remove : (cases : List CaseAttempt) (p : ℕ) (c : CaseAttempt) (k : ℕ) → slice_get cases p ≡ Some c → count_at c.position cases ≤ 1
    → is_among (remove cases p) k ≡ (if k == c.position then false else is_among cases k)
among_remove cases p c k at once =
    let most : (k == c.position) ≡ true → count_at k cases ≤ 1 = λ e. rw (same_position k c.position e) once in
    let less = times_less position k cases p c at in
    grind (arith, nat_tests, among_counts (remove cases p) k, among_counts cases k, less, one_if_is (k == c.position), most)
