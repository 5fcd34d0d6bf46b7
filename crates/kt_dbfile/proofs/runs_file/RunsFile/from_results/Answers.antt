use Rattle.kt_dbfile.proofs.Common.{StandsFor, state, subst, sym}
use Rattle.kt_dbfile.proofs.runs_file.RunsFile.from_results.Goals as goal

pub returns-in-Ok-clause-stands : goal.returns-in-Ok-clause-stands
returns-in-Ok-clause-stands g c runs has = c.in-Ok.ensures.stands runs (subst (λ h. StandsFor (state g.S.Store h) runs) (sym c.into_parts-connection.ensures) has)
