-- Chains of states that calls lead through.
use Rattle.std.proofs.Common.{List, [], ◌∷◌, ◌++◌, subst}
use Rattle.kt_base.specs.Chains.{Chain}

-- a chain to a state and a chain from that state make one chain of all calls
pub chain-append : {S Q : Type 0} (leads : S → Q → S → Type 0) (xs ys : List Q) (a b d : S) → Chain leads a xs b → Chain leads b ys d → Chain leads a (xs ++ ys) d
chain-append {S} {Q} leads [] ys a b d h k = subst (λ (s : S). Chain leads s ys d) h k
chain-append leads (x ∷ xs) ys a b d h k = (h.0, h.1, chain-append leads xs ys h.0 b d h.2 k)
