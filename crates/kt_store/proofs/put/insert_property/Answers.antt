use Rattle.kt_store.proofs.Common.{inr, on_ok_weaker}
use Rattle.kt_store.proofs.SqlFacts.{pair_is}
use Rattle.kt_store.proofs.put.insert_property.Goals as goal

pub execute_in_transaction-requires : goal.execute_in_transaction-requires
execute_in_transaction-requires g c = inr (inr (inr (inr pair_is.1)))

pub returns-clause-runs : goal.returns-clause-runs
returns-clause-runs g c = on_ok_weaker c.execute_in_transaction.result (λ once clean inside.
    let ran = rw (c.int_value.ensures, c.from.ensures, c.int_value-2.ensures, c.from-2.ensures, c.int_value-3.ensures, c.text_value.ensures.value, c.text_value-2.ensures.value) at (once clean inside) in
    (ran.0, ran.1, (c.text_value.ensures.spelled, (c.text_value-2.ensures.spelled, tt)))) c.execute_in_transaction.ensures.runs
