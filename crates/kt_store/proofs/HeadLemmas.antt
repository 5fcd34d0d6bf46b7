-- The head of the requested run, or of the last run.
use Rattle.kt_store.proofs.Common.{IfSome, IsNumbered, List, None, Option, Run, RunHead, Some, ap, head_at, head_of, length, option_map, run_at, unwrap_or, ℕ, ◌∙◌, ◌≡◌}

module _ (runs : List Run) (number : Option ℕ) (last n : ℕ) (last_is : last ≡ length runs) (is : n ≡ unwrap_or number last) where
  same : option_map head_of (run_at runs n) ≡ head_at runs number
  same = ap (λ (m : ℕ). option_map head_of (run_at runs m)) (is ∙ ap (unwrap_or number) last_is)

  pub one_head : (head : RunHead) → Some head ≡ option_map head_of (run_at runs n) → Some head ≡ head_at runs number
  one_head head found = found ∙ same

-- a head with the requested number meets `IsNumbered`; without a request, any head does
pub asked_for : (number : Option ℕ) (last n : ℕ) (head : RunHead) → n ≡ unwrap_or number last → head.number ≡ n → IsNumbered number head
asked_for None last n head is has = tt
asked_for (Some m) last n head is has = has ∙ is

-- a head that was found by the requested number meets `IsNumbered`
pub all_asked_for : (number : Option ℕ) (last n : ℕ) (found : Option RunHead) → n ≡ unwrap_or number last → IfSome found (λ head. head.number ≡ n) → IfSome found (IsNumbered number)
all_asked_for number last n None is has = tt
all_asked_for number last n (Some head) is has = asked_for number last n head is has
