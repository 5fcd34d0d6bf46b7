use Rattle.kt_doubles.proofs.Common.{Put}
use Rattle.kt_doubles.proofs.MemoryLaws.{serves_in_memory}
use Rattle.kt_doubles.proofs.mem_runs.MemRunsResultStore.put.Goals as goal

pub returns : goal.returns
returns c = serves_in_memory _ (Put c.args.run c.args.entry.now c.put_entry.result) _ c.put_entry.ensures
