-- Lemmas on calls to a world, one after the other.
use Rattle.std.proofs.Common.{Option, Result, Err, Bool, MatchResult, ◌≡◌, ℕ, List, [], ◌∷◌, ◌++◌, refl, sym, ap, ◌∙◌, subst}
use Rattle.kt_plan.proofs.Common.{Child, IsIdle, Chain, LeadsByCalls, chain-append}
use Rattle.kt_base.specs.declared.child.Role.{Role}

module _ {W Q : Type 0} {leads : W → Q → W → Type 0} where
  -- If the calls have the property `P` and `P` implies `R`, the calls have the property `R`.
  pub answered-as : {old new : W} {P R : List Q → Type 0} → LeadsByCalls leads old new P → ((asked : List Q) → P asked → R asked)
      → LeadsByCalls leads old new R
  answered-as a f = record { asked = a.asked; chain = a.chain; holds = f a.asked a.holds }

  -- Two lists of calls, one after the other, are one list of calls.
  pub answered-then : {old mid new : W} {P R S : List Q → Type 0} → LeadsByCalls leads old mid P → LeadsByCalls leads mid new R
      → ((some more : List Q) → P some → R more → S (some ++ more))
      → LeadsByCalls leads old new S
  answered-then {old} {mid} {new} a b both =
      record { asked = a.asked ++ b.asked; chain = chain-append leads a.asked b.asked old mid new a.chain b.chain; holds = both a.asked b.asked a.holds b.holds }

  -- One call leads the world to the state to which a list of this call leads it.
  pub answered-once : {old new : W} {P : List Q → Type 0} (q : Q) → leads old q new → P (q ∷ []) → LeadsByCalls leads old new P
  answered-once {new = new} q h p = record { asked = q ∷ []; chain = (new, h, refl); holds = p }

-- Three calls, followed by a list of calls, are one list of calls.
pub asked_four : {W Q : Type 0} (leads : W → Q → W → Type 0) (old a b d new : W) (x y z : Q) (P : List Q → Type 0) → leads old x a → leads a y b → leads b z d → LeadsByCalls leads d new P
    → LeadsByCalls leads old new (λ asked. (more : List Q) × (asked ≡ x ∷ y ∷ z ∷ more) × P more)
asked_four leads old a b d new x y z P h i j k = record { asked = x ∷ y ∷ z ∷ k.asked; chain = (a, h, (b, i, (d, j, k.chain))); holds = (k.asked, refl, k.holds) }

-- If a result is an error, calls with the property `First` are calls of that result.
pub asked_short : {W Q T E : Type 0} (leads : W → Q → W → Type 0) (old new : W) (First : List Q → Type 0) (P : List Q → T → Type 0) (r : Result T E) (fault : E) → r ≡ Err fault → LeadsByCalls leads old new First
    → LeadsByCalls leads old new (λ asked. MatchResult r (P asked) (λ _. First asked))
asked_short leads old new First P r fault e a = record { asked = a.asked; chain = a.chain; holds = subst (λ (z : Result _ _). MatchResult z (P a.asked) (λ _. First a.asked)) (sym e) a.holds }

-- An empty list of calls leaves the world unchanged.
pub asked_nothing : {W Q : Type 0} (leads : W → Q → W → Type 0) (world : W) (P : List Q → Type 0) → P [] → LeadsByCalls leads world world P
asked_nothing leads world P p = record { asked = []; chain = refl; holds = p }

-- If no single call changes the view of the world, no list of calls changes it.
still : {W Q X : Type 0} (leads : W → Q → W → Type 0) (view : W → X) → ((s t : W) (q : Q) → leads s q t → view t ≡ view s) → (qs : List Q) (a b : W) → Chain leads a qs b → view b ≡ view a
still leads view keeps [] a b h = ap view h
still leads view keeps (q ∷ qs) a b h = still leads view keeps qs h.0 b h.2 ∙ keeps a h.0 q h.1

-- An idle world is idle after calls that do not change what runs.
pub idle_after : {W Q : Type 0} (leads : W → Q → W → Type 0) (running : W → ℕ → Role → Option Child) (pending : W → ℕ → Bool)
    → ((s t : W) (q : Q) → leads s q t → (k : ℕ) (r : Role) → running t k r ≡ running s k r) → ((s t : W) (q : Q) → leads s q t → (k : ℕ) → pending t k ≡ pending s k)
    → (old new : W) (qs : List Q) → Chain leads old qs new → IsIdle (running old) (pending old) → IsIdle (running new) (pending new)
idle_after leads running pending a b old new qs h i = record {
  runs = λ k r. still leads (λ s. running s k r) (λ s u q x. a s u q x k r) qs old new h ∙ i.runs k r;
  pends = λ k. still leads (λ s. pending s k) (λ s u q x. b s u q x k) qs old new h ∙ i.pends k;
}

-- An idle world is idle after one call that does not change what runs.
pub idle_once : {W Q : Type 0} (leads : W → Q → W → Type 0) (running : W → ℕ → Role → Option Child) (pending : W → ℕ → Bool)
    → ((s t : W) (q : Q) → leads s q t → (k : ℕ) (r : Role) → running t k r ≡ running s k r) → ((s t : W) (q : Q) → leads s q t → (k : ℕ) → pending t k ≡ pending s k)
    → (old new : W) (q : Q) → leads old q new → IsIdle (running old) (pending old) → IsIdle (running new) (pending new)
idle_once leads running pending a b old new q h i = record { runs = λ k r. a old new q h k r ∙ i.runs k r; pends = λ k. b old new q h k ∙ i.pends k }
