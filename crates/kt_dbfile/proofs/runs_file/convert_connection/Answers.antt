use Rattle.kt_dbfile.proofs.Common.{HasCommitted, subst, sym}
use Rattle.kt_dbfile.proofs.EndLemmas.{still_sound, still_stands}
use Rattle.kt_dbfile.specs.Inner.Opening.{IsConvertedFrom}
use Rattle.kt_dbfile.proofs.runs_file.convert_connection.Goals as goal

pub wrap_trees-requires-clause-sound : goal.wrap_trees-requires-clause-sound
wrap_trees-requires-clause-sound g c opened = still_sound g.S.Store c.args.connection c.detach_store-store.result (g.met.S.Store.shut_if_dirty c.detach_store-store.result) c.theorem_of_valid_contents.ensures c.detach_store-store.ensures.undone opened

pub returns-in-Ok-clause-stands : goal.returns-in-Ok-clause-stands
returns-in-Ok-clause-stands g c runs has =
    subst (λ s. HasCommitted (g.S.Store.view s) runs) (sym c.in-Ok.ensures.same)
    (still_stands g.S.Store c.args.connection c.detach_store-store.result (g.met.S.Store.shut_if_dirty c.detach_store-store.result) c.theorem_of_valid_contents.ensures c.detach_store-store.ensures.undone c.detach_store-store.ensures.from.earlier runs has)

pub returns-in-Ok-clause-value : goal.returns-in-Ok-clause-value
returns-in-Ok-clause-value g c = subst (IsConvertedFrom g.S.Store c.args.connection) (sym c.in-Ok.ensures.same) c.detach_store-store.ensures.from

pub returns-in-Err-clause-left : goal.returns-in-Err-clause-left
returns-in-Err-clause-left g c = subst (IsConvertedFrom g.S.Store c.args.connection) (sym c.in-Err.ensures.back) c.detach_store-store.ensures.from
