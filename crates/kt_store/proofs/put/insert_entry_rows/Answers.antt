use Rattle.kt_store.proofs.Common.{HasCleanDisk, arith, inr, on_ok_weaker, state}
use Rattle.kt_store.proofs.SqlFacts.{put_is}
use Rattle.kt_store.proofs.put.insert_entry_rows.Goals as goal

pub execute_in_transaction-requires : goal.execute_in_transaction-requires
execute_in_transaction-requires g c = inr (inr (inr (inr put_is.1)))

pub returns-clause-runs : goal.returns-clause-runs
returns-clause-runs g c = on_ok_weaker c.insert_properties.result (λ added clean inside.
    let early : HasCleanDisk (state g.S.Store c.execute_in_transaction.new.tx.conn.now) = omega (arith, clean, c.insert_properties.ensures.uncommitted.survives.clean) in
    let one = rw (c.int_value.ensures, c.from.ensures, c.int_value-2.ensures, c.from-2.ensures, c.text_value.ensures.value, c.text_value-2.ensures.value, c.int_value-3.ensures, c.kind_code.ensures.value, c.kind.ensures, c.text_value-3.ensures.value, c.requires.reason, c.int_value-4.ensures, c.int_value-5.ensures, c.blob_value.ensures, c.blob_value-2.ensures, c.blob_value-3.ensures, c.blob_value-4.ensures) at (c.in_ok-execute_in_transaction.ensures.runs early inside) in
    (c.execute_in_transaction.new.tx.conn.now, (one.0, one.1, (c.text_value.ensures.spelled, (c.text_value-2.ensures.spelled, (rw c.requires.reason at c.text_value-3.ensures.spelled, tt)))), rw c.as_slice.ensures at (added clean one.1.1.mode))) c.insert_properties.ensures.runs
