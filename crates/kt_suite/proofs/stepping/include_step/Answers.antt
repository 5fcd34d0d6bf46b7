use Rattle.kt_suite.proofs.Common.{scant}
use Rattle.kt_suite.proofs.stepping.include_step.Goals as goal

pub returns-in-Err-clause-err : goal.returns-in-Err-clause-err
returns-in-Err-clause-err c = scant c.fault_of_allocation.result (c.in-Err.refusal, c.fault_of_allocation.ensures)
