-- Chains of states that calls lead through.
use Rattle.std.specs.Prelude.{◌≡◌, List, [], ◌∷◌}

-- `Chain leads old calls new`: the calls `calls`, one after the other, lead from the state `old` to
-- the state `new`. The relation `leads` relates the state before a call, the call, and the state
-- after it.
abbrev pub Chain : {S Q : Type 0} → (S → Q → S → Type 0) → S → List Q → S → Type 0
Chain leads old [] new = new ≡ old
Chain {S} leads old (q ∷ qs) new = (mid : S) × leads old q mid × Chain leads mid qs new
