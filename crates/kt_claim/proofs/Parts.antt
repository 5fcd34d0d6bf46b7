-- Lines that are read in parts.
use Rattle.std.proofs.Common.{◌≡◌, ℕ, true, false, eqb, List, [], ◌∷◌, ◌++◌, refl, ap, sym, ◌∙◌, append_assoc}
use Rattle.kt_claim.proofs.Common.{false≢true, facts_of, facts_with, is_kind_known, KeepsIfReason, IsStateAfter, IsStateMidLine, without_cr, LineProgress}
use Rattle.kt_claim.specs.declared.open_line.LineProgress.TheVariants as begun

-- In a decided state, the bytes that follow don't change the facts of a line.
pub decided : (b : LineProgress) (kept xs ys : List ℕ) → is_kind_known b ≡ true → facts_with b kept xs ≡ facts_with b kept ys
decided (begun.KnownKind k) kept xs ys e = refl
decided _ kept xs ys e = absurd (false≢true e)

-- `TakesIn first state kept now part rest`: reading the bytes of `part` before `rest` leads from
-- the state `first` to `state`, with equal facts. `kept` and `now` are the kept bytes before and
-- after, and are equal.
abbrev pub TakesIn : LineProgress → LineProgress → List ℕ → List ℕ → List ℕ → List ℕ → Type 0
TakesIn first state kept now part rest = KeepsIfReason first kept → (now ≡ kept) × KeepsIfReason state now × ((more : List ℕ) → facts_with first kept (part ++ more) ≡ facts_with state now (rest ++ more))

abbrev pub TookIn : LineProgress → LineProgress → List ℕ → List ℕ → List ℕ → Type 0
TookIn first state kept now part = KeepsIfReason first kept → KeepsIfReason state now × ((more : List ℕ) → facts_with first kept (part ++ more) ≡ facts_with state now more)

-- ---- carriage returns

pub return-append : (xs : List ℕ) (b : ℕ) (more : List ℕ) → without_cr (xs ++ b ∷ more) ≡ xs ++ without_cr (b ∷ more)
return-append [] b more = refl
return-append (x ∷ []) b more = refl
return-append (x ∷ y ∷ xs) b more = ap (λ (zs : List ℕ). x ∷ zs) (return-append (y ∷ xs) b more)

pub no_return : (b : ℕ) (more : List ℕ) → (eqb b 13) ≡ false → without_cr (b ∷ more) ≡ b ∷ without_cr more
no_return b [] e = rw e refl
no_return b (c ∷ more) e = refl

pub tells_all : (s : LineProgress) (kept came : List ℕ) → IsStateMidLine s kept came → (xs : List ℕ) (b : ℕ) (more : List ℕ)
    → facts_of (without_cr (came ++ (xs ++ b ∷ more))) ≡ facts_with s kept (xs ++ without_cr (b ∷ more))
tells_all s kept came r [] b more = r.facts b more
tells_all s kept came r (x ∷ xs) b more = r.facts x (xs ++ b ∷ more) ∙ ap (facts_with s kept) (return-append (x ∷ xs) b more)

pub snoc-more : (came front part more : List ℕ) (b : ℕ) → part ≡ front ++ b ∷ [] → (came ++ part) ++ more ≡ came ++ (front ++ b ∷ more)
snoc-more came front part more b parts = append_assoc came part more ∙ ap (λ (xs : List ℕ). came ++ xs) (ap (λ (xs : List ℕ). xs ++ more) parts ∙ append_assoc front (b ∷ []) more)

-- A carriage return at the end of a part is held back.
pub holds_back : (s next : LineProgress) (kept now came front part : List ℕ) (b : ℕ) → part ≡ front ++ b ∷ [] → b ≡ 13
    → IsStateMidLine s kept came → TookIn s next kept now front → IsStateAfter next now true (came ++ part)
holds_back s next kept now came front part b parts is r took = let t = took r.keeps in record {
  keeps = t.0;
  facts = λ more. ap (λ (xs : List ℕ). facts_of (without_cr xs)) (snoc-more came front part more b parts)
      ∙ tells_all s kept came r front b more ∙ t.1 (without_cr (b ∷ more)) ∙ ap (λ (x : ℕ). facts_with next now (without_cr (x ∷ more))) is;
}

-- Another byte at the end of a part is not held back.
pub holds_none : (s next : LineProgress) (kept now came front part : List ℕ) (b : ℕ) → part ≡ front ++ b ∷ [] → eqb b 13 ≡ false
    → IsStateMidLine s kept came → TookIn s next kept now part → IsStateAfter next now false (came ++ part)
holds_none s next kept now came front part b parts isnt r took = let t = took r.keeps in record {
  keeps = t.0;
  facts = λ more. ap (λ (xs : List ℕ). facts_of (without_cr xs)) (snoc-more came front part more b parts)
      ∙ tells_all s kept came r front b more
      ∙ ap (λ (xs : List ℕ). facts_with s kept xs) (ap (λ (xs : List ℕ). front ++ xs) (no_return b more isnt) ∙ sym (append_assoc front (b ∷ []) (without_cr more)) ∙ ap (λ (xs : List ℕ). xs ++ without_cr more) (sym parts))
      ∙ t.1 (without_cr more);
}
