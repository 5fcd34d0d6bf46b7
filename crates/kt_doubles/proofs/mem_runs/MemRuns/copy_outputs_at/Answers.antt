use Rattle.std.proofs.Common.{◌∙◌, ◌==◌, sym, ap}
use Rattle.kt_doubles.proofs.Common.{find, option_copied, Entry}
use Rattle.kt_doubles.proofs.MemoryLaws.{outputs_well, outputs_missing}
use Rattle.kt_doubles.proofs.mem_runs.MemRuns.copy_outputs_at.Goals as goal

pub returns-in_default : goal.returns-in_default
returns-in_default c =
    outputs_missing _ c.self.inside.runs.items _ c.in_ok-place.place c.index.result.now c.self.view_is c.in_ok-place.ensures c.index.ensures c.args.position
    (sym (ap option_copied c.in_default.is) ∙ c.entry_at.ensures ∙ ap (find (λ (e : Entry). e.position == c.args.position)) c.as_slice.ensures)

pub returns-in-Ok : goal.returns-in-Ok
returns-in-Ok c =
    outputs_well _ c.self.inside.runs.items _ c.in_ok-place.place c.index.result.now c.self.view_is c.in_ok-place.ensures c.index.ensures c.args.position c.in-Some.entry.now c.in-Ok.outputs
    (sym (ap option_copied c.in-Some.is) ∙ c.entry_at.ensures ∙ ap (find (λ (e : Entry). e.position == c.args.position)) c.as_slice.ensures) c.in-Ok.ensures
