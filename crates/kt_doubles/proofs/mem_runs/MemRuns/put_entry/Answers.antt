use Rattle.std.proofs.Common.{ap, refl, rules, set, ◌∙◌}
use Rattle.kt_doubles.proofs.Common.{Put, ServesInMemory, has_position}
use Rattle.kt_doubles.proofs.MemoryLaws.{by_error, put_refused, put_well}
use Rattle.kt_doubles.proofs.mem_runs.MemRuns.put_entry.Goals as goal

pub returns-in_err-check_put : goal.returns-in_err-check_put
returns-in_err-check_put c =
    by_error (λ r. ServesInMemory c.args.self.now (Put c.args.number c.args.entry.now r) (set c.self.inside.runs.items c.in_ok-place.place c.index_mut-run.result.now)) c.from_residual-in_err-check_put.result c.in_err-check_put.field-0.0 c.from_residual-in_err-check_put.ensures.1
    (put_refused _ c.self.inside.runs.items _ c.in_ok-place.place c.index_mut-run.result.now c.self.view_is c.in_ok-place.ensures c.index_mut-run.ensures.value c.args.entry.now _ _ _ refl refl (c.has_position-is_taken.ensures ∙ ap (has_position c.args.entry.now.position) c.as_slice.ensures) _ c.in_err-check_put.ensures.refused)

pub returns : goal.returns
returns c =
    put_well _ c.self.inside.runs.items _ c.in_ok-place.place c.index_mut-run.result.now c.self.view_is c.in_ok-place.ensures c.index_mut-run.ensures.value c.args.entry.now _ _ _ refl refl (c.has_position-is_taken.ensures ∙ ap (has_position c.args.entry.now.position) c.as_slice.ensures) _ c.in_ok-check_put.ensures.accepted (search rules)
