use Rattle.kt_dbfile.proofs.OpeningLemmas.{not_taken, taken_by}
use Rattle.kt_dbfile.proofs.Common.{inl, state, subst, sym}
use Rattle.kt_store.specs.Attaching.{AttachSucceeds, InitialDatabase, Describes}
use Rattle.kt_dbfile.proofs.runs_file.attach_and_convert.Goals as goal

pub returns-in-Ok-clause-attached : goal.returns-in-Ok-clause-attached
returns-in-Ok-clause-attached g c =
    taken_by g.S.Store c.args.connection c.into_parts-attached.result.1 c.convert_connection.result
    (subst (λ h. (was : InitialDatabase) → Describes was (state g.S.Store c.args.connection) → AttachSucceeds was (state g.S.Store c.args.connection) (state g.S.Store h)) (sym c.into_parts-attached.ensures) c.in-Ok.ensures.taken)
    c.convert_connection.ensures.stands c.convert_connection.ensures.value

pub returns-in-Ok-clause-left : goal.returns-in-Ok-clause-left
returns-in-Ok-clause-left g c =
    not_taken g.S.Store c.args.connection c.into_parts-attached.result.1 c.convert_connection.result
    (subst (λ h. (was : InitialDatabase) → Describes was (state g.S.Store c.args.connection) → AttachSucceeds was (state g.S.Store c.args.connection) (state g.S.Store h)) (sym c.into_parts-attached.ensures) c.in-Ok.ensures.taken)
    c.convert_connection.ensures.failed c.convert_connection.ensures.left

pub returns-in-Err-clause-left : goal.returns-in-Err-clause-left
returns-in-Err-clause-left g c = (c.in-Err.connection, c.detach_store.ensures.from, inl c.in-Err.ensures.refused)
