use Rattle.kt_store.proofs.Common.{IfOk-weaker, state}
use Rattle.kt_store.proofs.SqlFacts.{pairs_select_is}
use Rattle.kt_store.proofs.PairsLemmas.{tells_pairs}
use Rattle.kt_store.proofs.entries.read_property_rows.Goals as goal

pub query-requires : goal.query-requires
query-requires g c = record { plain = pairs_select_is.2; width = pairs_select_is.3 }

pub returns-clause-all : goal.returns-clause-all
returns-clause-all g c runs has clean = IfOk-weaker c.query.result _ _ (λ rows are.
    let it = rw (c.int_value.ensures, c.from.ensures, c.int_value-2.ensures, c.from-2.ensures) at are in
    tells_pairs (state g.S.Store it.mid) (state g.S.Store c.query.new.conn) runs c.args.run c.args.position rows.items it.stored it.shown) (c.query.ensures.shown runs has clean)
