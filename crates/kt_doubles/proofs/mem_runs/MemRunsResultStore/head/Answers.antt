use Rattle.kt_doubles.proofs.MemoryLaws.{head_served}
use Rattle.kt_doubles.proofs.mem_runs.MemRunsResultStore.head.Goals as goal

pub returns-clause-served : goal.returns-clause-served
returns-clause-served c = head_served _ c.args.number c.select_head.result c.select_head.ensures.found
