use Rattle.kt_store.proofs.Common.{state, ◌∙◌}
use Rattle.kt_store.proofs.SqlFacts.{runs_select_is}
use Rattle.kt_store.proofs.RunLemmas.{tells_heads}
use Rattle.kt_store.proofs.heads.read_heads.Goals as goal

pub query-requires : goal.query-requires
query-requires g c = record { plain = runs_select_is.2; width = runs_select_is.3 }

pub returns-clause-all : goal.returns-clause-all
returns-clause-all g c runs has clean =
    let it = c.in_ok-rows.ensures.shown runs has clean in
    c.heads_from_rows.ensures.heads runs (c.deref.ensures.value ∙ tells_heads (state g.S.Store it.mid) (state g.S.Store c.query.new.conn) runs c.in_ok-rows.rows.items it.stored it.shown)
