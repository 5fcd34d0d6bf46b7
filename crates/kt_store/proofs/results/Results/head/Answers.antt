use Rattle.kt_store.proofs.Common.{Head, refl, ◌∙◌}
use Rattle.kt_store.proofs.RunsByNumber.{head_found}
use Rattle.kt_store.proofs.ServeLemmas.{reads_serve}
use Rattle.kt_store.proofs.results.Results.head.Goals as goal

pub returns-clause-served : goal.returns-clause-served
returns-clause-served g c =
    reads_serve g.S.Store (Head c.args.number _) _ _ c.runs.ensures.reads (λ runs. refl) (λ runs may left. left) (λ runs has clean.
    c.select_head.ensures.found ∙ head_found c.args.number runs _ has.1 (c.deref.ensures.value ∙ c.in_ok-heads.ensures.heads runs has.0 clean))
