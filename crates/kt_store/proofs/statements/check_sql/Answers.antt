use Rattle.kt_store.proofs.Common.{[]}
use Rattle.kt_store.proofs.FaultLemmas.{on_err}
use Rattle.kt_store.proofs.StepLemmas.{not_run}
use Rattle.kt_store.proofs.statements.check_sql.Goals as goal

pub returns-in_err-prepare-clause-rests : goal.returns-in_err-prepare-clause-rests
returns-in_err-prepare-clause-rests g c clean = on_err _ c.from_residual.result (not_run _ _ _ [] c.in_err-prepare.field-0.0 (c.in_err-prepare.ensures.err clean []))
