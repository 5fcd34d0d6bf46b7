-- Launchers without children, and positions past the last.
use Rattle.std.proofs.Common.{Some, None, slice_index_or, replicate, ◌≡◌, ◌<◌, ℕ, zero, suc, List, [], length, refl, ap, arith, inl, inr}
use Rattle.kt_doubles.proofs.Common.{Role, running_child_at, is_cleanup_pending}
use Rattle.std.proofs.lemmas.Bool.{cases_lt}
use Rattle.std.proofs.lemmas.List.{get_or_past}
use Rattle.kt_sched.specs.Children.{Child, IsIdle}
use Rattle.kt_doubles.specs.Children.{child_in, is_pending_slot}
use Rattle.kt_doubles.specs.declared.children.ChildSlot.{ChildSlot}
use Rattle.kt_doubles.specs.declared.children.ChildSlot.TheVariants.{Free}

-- No child runs at any position if none runs at the first 2048 positions.
pub nowhere : (slots : List ChildSlot) → length slots ≡ 2048 → ((i : ℕ) (r : Role) → i < 2048 → running_child_at slots i r ≡ None) → (i : ℕ) (r : Role) (child : Child) → running_child_at slots i r ≡ Some child → ⊥
nowhere slots b h i r child e = elim (cases_lt i 2048) [
  | inl l ↦ cc (h i r l, e)
  | inr l ↦ cc (ap (λ (p : ChildSlot). child_in p r) (get_or_past slots i Free (omega (arith, b, l))), e)
]

-- A launcher without running children and pending cleanups is idle.
pub idle : (slots : List ChildSlot) → ((k : ℕ) → slice_index_or slots k Free ≡ Free) → IsIdle (running_child_at slots) (is_cleanup_pending slots)
idle slots h = record { runs = λ k r. ap (λ (p : ChildSlot). child_in p r) (h k); pends = λ k. ap is_pending_slot (h k) }

-- Each element of `replicate n x` is `x`.
pub all_same : {X : Type 0} (n k : ℕ) (x : X) → slice_index_or (replicate n x) k x ≡ x
all_same zero k x = get_or_past [] k x (omega arith)
all_same (suc n) zero x = refl
all_same (suc n) (suc k) x = all_same n k x
