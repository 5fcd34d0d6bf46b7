use Rattle.kt_store.proofs.Common.{ap, length, nat_lt, ◌∙◌}
use Rattle.kt_store.proofs.SqlFacts.{there_is}
use Rattle.kt_store.proofs.EntriesLemmas.{tells_there}
use Rattle.kt_store.proofs.lookup.has_entry_at.Goals as goal

pub query-requires : goal.query-requires
query-requires g c = record { plain = there_is.2; width = there_is.3 }

pub returns-clause-found : goal.returns-clause-found
returns-clause-found g c runs has clean =
    c.has_rows.ensures ∙ ap (λ l. nat_lt 0 (length l)) c.deref.ensures.value ∙ tells_there g.S.Store c.query.new.conn runs c.args.run c.args.position c.in_ok-rows.rows.items (rw (c.int_value.ensures, c.from.ensures, c.int_value-2.ensures, c.from-2.ensures) at (c.in_ok-rows.ensures.shown runs has clean))
