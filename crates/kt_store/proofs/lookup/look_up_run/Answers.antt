use Rattle.kt_store.proofs.Common.{ap, run_at, sym, ◌∙◌}
use Rattle.kt_store.proofs.RunLemmas.{one_found}
use Rattle.kt_store.proofs.lookup.look_up_run.Goals as goal

pub returns-clause-found : goal.returns-clause-found
returns-clause-found g c runs has clean =
    let it = one_found (run_at runs c.run_key-number.result) c.in-Some.total c.in-Some.finished (sym c.in-Some.is ∙ c.in_ok-total.ensures.found runs has clean) in
    (it.0, ap (run_at runs) (sym (sym c.from.ensures ∙ c.if-from-run.false)) ∙ it.1, it.2, it.3, c.in_ok-total.ensures.valid runs has clean)
