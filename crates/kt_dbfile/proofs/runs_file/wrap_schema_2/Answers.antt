use Rattle.kt_dbfile.proofs.Common.{schema_2}
use Rattle.kt_dbfile.proofs.EndLemmas.{looked_settled}
use Rattle.kt_dbfile.proofs.runs_file.wrap_schema_2.Goals as goal

pub wrap_trees-requires-clause-sound : goal.wrap_trees-requires-clause-sound
wrap_trees-requires-clause-sound g c opened =
    let new = c.check_schema_number.new.self.store in
    let is = looked_settled g.S.Store c.args.store new schema_2 (g.met.S.Store.shut_if_dirty new) c.check_schema_number.ensures.looks (record { settled = λ _ _. c.requires.settled; sound = c.requires.sound }) in
    (schema_2, is.sound opened)
