use Rattle.kt_store.proofs.Common.{ap, find, subst, sym, IfSome, IsNumbered, Option, RunHead, ℕ, ◌==◌, ◌∙◌}
use Rattle.kt_store.proofs.HeadLemmas.{all_asked_for}
use Rattle.kt_store.proofs.heads.select_head.Goals as goal

pub returns-clause-found : goal.returns-clause-found
returns-clause-found c =
    c.copied.ensures ∙ c.find_head.ensures.found ∙ ap (λ (n : ℕ). find (λ (head : RunHead). head.number == n) c.args.heads.now) c.unwrap_or.ensures

pub returns-clause-numbered : goal.returns-clause-numbered
returns-clause-numbered c = subst (λ (o : Option RunHead). IfSome o (IsNumbered c.args.number)) (sym c.copied.ensures) (all_asked_for c.args.number _ c.unwrap_or.result _ c.unwrap_or.ensures c.find_head.ensures.numbered)
