use Rattle.std.proofs.Common.{refl, set}
use Rattle.kt_doubles.proofs.Common.{Finished, ServesInMemory}
use Rattle.kt_doubles.proofs.MemoryLaws.{by_error, end_refused, end_well}
use Rattle.kt_doubles.proofs.mem_runs.MemRuns.finish_run.Goals as goal

pub returns-in_err-check_finish : goal.returns-in_err-check_finish
returns-in_err-check_finish c =
    by_error (λ r. ServesInMemory c.args.self.now (Finished c.args.number r) (set c.self.inside.runs.items c.in_ok-place.place c.index_mut-run.result.now)) c.from_residual-in_err-check_finish.result c.in_err-check_finish.field-0.0 c.from_residual-in_err-check_finish.ensures.1
    (end_refused _ c.self.inside.runs.items _ c.in_ok-place.place c.index_mut-run.result.now c.self.view_is c.in_ok-place.ensures c.index_mut-run.ensures.value _ _ _ refl refl c.len-count.ensures _ c.in_err-check_finish.ensures.refused)

pub returns : goal.returns
returns c =
    end_well _ c.self.inside.runs.items _ c.in_ok-place.place c.index_mut-run.result.now c.self.view_is c.in_ok-place.ensures c.index_mut-run.ensures.value _ _ _ refl refl c.len-count.ensures c.in_ok-check_finish.ensures.accepted
