use Rattle.kt_store.proofs.FaultLemmas.{starved}
use Rattle.kt_doubles.proofs.failing_calls.FailingCalls.count_call.Goals as goal

pub returns-in-Some : goal.returns-in-Some
returns-in-Some c = starved _ c.from.ensures
