-- The errors of a result file in their order, and its reason.
use Rattle.std.proofs.Common.{◌≡◌, ℕ, ◌<◌, Bool, true, false, not, cond, List, [], ◌∷◌, ◌++◌, length, drop, Option, Some, None, refl, ap, sym, subst, ◌∙◌, arith, ◌&&◌, nat_eq, nat_lt, MatchOption}
use Rattle.kt_claim.proofs.Common.{list_any, false≢true, eqb-true, ltb-true, lossy, is_newline, newline, IsReason, reason_suffix, SpellsClaim, has_reason, reason_in, claim_from_reason, Claim, ClaimFault, NoReason}
use Rattle.kt_claim.specs.declared.evidence.Claim.TheVariants as claim
use Rattle.std.proofs.lemmas.Bool.{and_parts}

-- ---- rows

-- If an error doesn't fit, the next error of the list decides.
pub row : (t : Bool) (f : ClaimFault) (o : Option ClaimFault) (c : Claim) (A : Claim → Type 0) → (t ≡ false → MatchOption o (A c) (λ g. c ≡ claim.Malformed g))
    → MatchOption (cond t (Some f) o) (A (cond t (claim.Malformed f) c)) (λ g. cond t (claim.Malformed f) c ≡ claim.Malformed g)
row true f o c A h = refl
row false f o c A h = h refl

pub under : (o : Option ClaimFault) (c : Claim) (A B : Type 0) → (A → B) → MatchOption o A (λ g. c ≡ claim.Malformed g) → MatchOption o B (λ g. c ≡ claim.Malformed g)
under None c A B f h = f h
under (Some g) c A B f h = h

-- ---- a reason

-- A reason follows a colon and a space, and has a byte.
pub reason_parts : (rest : List ℕ) → has_reason rest ≡ true → (r : List ℕ) × (rest ≡ 58 ∷ 32 ∷ r) × (0 < length r)
reason_parts [] e = absurd (false≢true e)
reason_parts (a ∷ []) e = absurd (false≢true (sym (no_second (nat_eq 58 a) (nat_lt 2 1)) ∙ e)) where
  no_second : (t u : Bool) → ((t && false) && u) ≡ false
  no_second true u = refl
  no_second false u = refl
reason_parts (a ∷ b ∷ r) e =
    let begins : (nat_eq 58 a && (nat_eq 32 b && true)) ≡ true = (and_parts (nat_eq 58 a && (nat_eq 32 b && true)) (nat_lt 2 (length (a ∷ b ∷ r))) e).0 in
    let colon : 58 ≡ a = eqb-true 58 a (and_parts (nat_eq 58 a) (nat_eq 32 b && true) begins).0 in
    let space : 32 ≡ b = eqb-true 32 b (and_parts (nat_eq 32 b) true (and_parts (nat_eq 58 a) (nat_eq 32 b && true) begins).1).0 in
    let long : 2 < length (a ∷ b ∷ r) = ltb-true 2 (length (a ∷ b ∷ r)) (and_parts (nat_eq 58 a && (nat_eq 32 b && true)) (nat_lt 2 (length (a ∷ b ∷ r))) e).1 in
    (r, ap (λ (x : ℕ). x ∷ b ∷ r) (sym colon) ∙ ap (λ (x : ℕ). 58 ∷ x ∷ r) (sym space), omega arith)

pub no_newline_after : (rest r : List ℕ) → rest ≡ 58 ∷ 32 ∷ r → list_any is_newline rest ≡ false → list_any is_newline r ≡ false
no_newline_after rest r parts none = sym (ap (list_any is_newline) parts) ∙ none

-- `Wanted w make`: the keyword `w` with any reason spells the claim that `make` makes of the
-- reason.
abbrev pub Wanted : List ℕ → (List ℕ → Claim) → Type 0
Wanted w make = (r : List ℕ) → IsReason r → SpellsClaim (w ++ reason_suffix r) (make (lossy r))

pub reasoned_at : (t : Bool) (w rest : List ℕ) (make : List ℕ → Claim) → has_reason rest ≡ t → Wanted w make → list_any is_newline rest ≡ false
    → MatchOption (cond (not t) (Some NoReason) None) (SpellsClaim (w ++ (rest ++ newline)) (claim_from_reason make (reason_in rest))) (λ g. claim_from_reason make (reason_in rest) ≡ claim.Malformed g)
reasoned_at true w rest make e wants none =
    let p = reason_parts rest e in
    let found : reason_in rest ≡ Some p.0 = rw e (ap (λ (xs : List ℕ). Some (drop 2 xs)) p.1) in
    let said : SpellsClaim (w ++ ((58 ∷ 32 ∷ p.0) ++ newline)) (make (lossy p.0)) = wants p.0 (p.2, no_newline_after rest p.0 p.1 none) in
    subst (λ (o : Option (List ℕ)). SpellsClaim (w ++ (rest ++ newline)) (claim_from_reason make o)) (sym found)
    (subst (λ (xs : List ℕ). SpellsClaim (w ++ (xs ++ newline)) (make (lossy p.0))) (sym p.1) said)
reasoned_at false w rest make e wants none = ap (claim_from_reason make) found where
  found : reason_in rest ≡ None
  found = rw e refl

pub reasoned : (w rest : List ℕ) (make : List ℕ → Claim) → Wanted w make → list_any is_newline rest ≡ false
    → MatchOption (cond (not (has_reason rest)) (Some NoReason) None) (SpellsClaim (w ++ (rest ++ newline)) (claim_from_reason make (reason_in rest))) (λ g. claim_from_reason make (reason_in rest) ≡ claim.Malformed g)
reasoned w rest make wants none = reasoned_at (has_reason rest) w rest make refl wants none
