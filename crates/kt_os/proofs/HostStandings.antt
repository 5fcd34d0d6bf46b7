-- Lemmas on the states of the host's children if one of them changes.
use Rattle.std.proofs.Common.{◌≡◌, ◌==◌, ℕ, zero, suc, Bool, true, false, cond, Option, Some, None, List, [], ◌∷◌, slice_get, refl, arith, ◌∙◌, ap, subst}
use Rattle.std.specs.Map.{lookup, values_of}
use Rattle.std.specs.Option.{option_and_then}
use Rattle.indexmap.specs.Layout.{set_value_at}
use Rattle.kt_os.proofs.Common.{and_parts, nat_tests, Role, Body, Cleanup, is_same_role, Child, HostChild, is_same_child, ProcessState, Proceeds, AllProceed, AllStay, OthersStay, process_state_in, process_state}
use Rattle.std.proofs.lemmas.Option.{same_Some}

-- Numbers that `==` accepts are equal.
same_number : (a b : ℕ) → (a == b) ≡ true → a ≡ b
same_number a b h = grind (arith, nat_tests)

-- Roles that `is_same_role` accepts are equal.
same_role_is : (a b : Role) → is_same_role a b ≡ true → a ≡ b
same_role_is Body Body e = refl
same_role_is Cleanup Cleanup e = refl
same_role_is a b e = absurd (cc)

-- Names that `is_same_child` accepts are equal.
same_child_is : (a b : Child) → is_same_child a b ≡ true → a ≡ b
same_child_is a b e =
    let w = and_parts (a.attempt == b.attempt) (is_same_role a.role b.role) e in
    let attempt = same_number a.attempt b.attempt w.0 in
    let role = same_role_is a.role b.role w.1 in
    λ i. record { attempt = attempt i; role = role i }

-- If one child's state and those of the others are unchanged, all are.
pub all_stay : (child : Child) (old new : Child → ProcessState) → new child ≡ old child → OthersStay child old new → AllStay old new
all_stay child old new own others c = by (is_same_child child c) refl
  where
    by : (t : Bool) → is_same_child child c ≡ t → new c ≡ old c
    by true e = rw (← same_child_is child c e) own
    by false e = others c e

-- `Proceeds` is true of a state and itself.
proceeds_same : (a : ProcessState) → Proceeds a a
proceeds_same None = refl
proceeds_same (Some None) = refl
proceeds_same (Some (Some status)) = refl

-- `Proceeds` is true of states that are equal to two others of which it is true.
pub proceeds_by : (a b c d : ProcessState) → a ≡ c → b ≡ d → Proceeds c d → Proceeds a b
proceeds_by a b c d e f p = rw (e, f) p

-- Two steps of `AllProceed`, one after the other, are one step.
pub all_proceed_more : (a b c : Child → ProcessState) → AllProceed a b → AllProceed b c → AllProceed a c
all_proceed_more a b c p q k = more (a k) (b k) (c k) (p k) (q k)
  where
    more : (a b c : ProcessState) → Proceeds a b → Proceeds b c → Proceeds a c
    more (Some None) None c p q = let none : false ≡ true = p in absurd (cc)
    more (Some None) (Some None) c p q = q
    more (Some None) (Some (Some status)) c p q = rw q refl
    more a b c p q = rw p at q

module _ {P I O E : Type 0} where
  -- If `Proceeds` is true of the first entries of two maps and of their other entries, it is true
  -- of the entries that are found.
  proceeds_if : (b : Bool) (x y : HostChild P I O E) (l m : Option (HostChild P I O E)) → Proceeds (process_state x) (process_state y)
      → Proceeds (option_and_then process_state l) (option_and_then process_state m)
      → Proceeds (option_and_then process_state (cond b (Some x) l)) (option_and_then process_state (cond b (Some y) m))
  proceeds_if true x y l m p q = p
  proceeds_if false x y l m p q = q

  -- If `Proceeds` is true of one child's old and new state, and the other states are unchanged,
  -- `AllProceed` is true of all states.
  pub all_proceed_set : (held : List (Child × HostChild P I O E)) (i : ℕ) (h w : HostChild P I O E) → slice_get (values_of held) i ≡ Some h
      → Proceeds (process_state h) (process_state w) → AllProceed (process_state_in held) (process_state_in (set_value_at held i w))
  all_proceed_set [] i h w at p c = absurd (cc)
  all_proceed_set (x ∷ held) zero h w at p c =
      proceeds_if (is_same_child c x.0) x.1 w (lookup (is_same_child c) held) (lookup (is_same_child c) held)
      (rw (same_Some x.1 h at) p) (proceeds_same _)
  all_proceed_set (x ∷ held) (suc i) h w at p c =
      proceeds_if (is_same_child c x.0) x.1 x.1 (lookup (is_same_child c) held) (lookup (is_same_child c) (set_value_at held i w)) (proceeds_same _)
      (all_proceed_set held i h w at p c)

  module _ {eq : Child → Child → Bool} (agrees : (a b : Child) → eq a b ≡ is_same_child a b) (old new : List (Child × HostChild P I O E)) (child : Child) where
    -- A map that changes one child's entry leaves the states of the others.
    pub others_stay : ((c : Child) → eq child c ≡ false → lookup (eq c) new ≡ lookup (eq c) old) → OthersStay child (process_state_in old) (process_state_in new)
    others_stay kept c other =
        subst (λ (f : Child → Child → Bool). option_and_then process_state (lookup (f c) new) ≡ option_and_then process_state (lookup (f c) old)) (λ i a b. agrees a b i)
        (ap (option_and_then process_state) (kept c (agrees child c ∙ other)))

    -- A map that changes one child's entry gives its old and its new state.
    pub changed : (h w : HostChild P I O E) → lookup (eq child) old ≡ Some h → lookup (eq child) new ≡ Some w
        → ((c : Child) → eq child c ≡ false → lookup (eq c) new ≡ lookup (eq c) old)
        → (process_state_in old child ≡ process_state h) × (process_state_in new child ≡ process_state w) × OthersStay child (process_state_in old) (process_state_in new)
    changed h w was now kept = (at old h was, at new w now, others_stay kept)
      where
        at : (held : List (Child × HostChild P I O E)) (k : HostChild P I O E) → lookup (eq child) held ≡ Some k → process_state_in held child ≡ process_state k
        at held k e =
            subst (λ (f : Child → Child → Bool). option_and_then process_state (lookup (f child) held) ≡ process_state k) (λ i a b. agrees a b i) (ap (option_and_then process_state) e)
