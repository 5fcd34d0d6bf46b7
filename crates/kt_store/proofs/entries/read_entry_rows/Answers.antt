use Rattle.kt_store.proofs.Common.{IfOk-weaker, state}
use Rattle.kt_store.proofs.SqlFacts.{entries_select_is}
use Rattle.kt_store.proofs.EntriesLemmas.{tells_entries}
use Rattle.kt_store.proofs.entries.read_entry_rows.Goals as goal

pub query-requires : goal.query-requires
query-requires g c = record { plain = entries_select_is.2; width = entries_select_is.3 }

pub returns-clause-all : goal.returns-clause-all
returns-clause-all g c runs has clean = IfOk-weaker c.query.result _ _ (λ rows are.
    let it = rw (c.int_value.ensures, c.from.ensures) at are in
    tells_entries (state g.S.Store it.mid) (state g.S.Store c.query.new.conn) runs c.args.run rows.items it.stored it.shown) (c.query.ensures.shown runs has clean)
