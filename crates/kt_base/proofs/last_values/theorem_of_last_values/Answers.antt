use Rattle.kt_base.proofs.LastValueLaws.{value_is, replaced, appended, overlaid}
use Rattle.kt_base.proofs.last_values.theorem_of_last_values.Goals as goal

pub returns-clause-value : goal.returns-clause-value
returns-clause-value c = λ name pairs. value_is name pairs

pub returns-clause-overlaid : goal.returns-clause-overlaid
returns-clause-overlaid c = λ under over. overlaid under over

pub returns-clause-replaced : goal.returns-clause-replaced
returns-clause-replaced c = λ pairs pair some. replaced pairs pair some

pub returns-clause-appended : goal.returns-clause-appended
returns-clause-appended c = λ pairs pair none. appended pairs pair none
