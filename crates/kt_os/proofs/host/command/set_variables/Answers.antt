use Rattle.std.proofs.Common.{ℕ, List, Option, Some, ◌∙◌}
use Rattle.kt_os.proofs.Common.{command_var, utf8}
use Rattle.kt_os.proofs.HostSteps.{said_now, set_step}
use Rattle.kt_os.proofs.host.command.set_variables.Goals as goal

pub loop-variable-preserved : goal.loop-variable-preserved
loop-variable-preserved c =
    let old : List ℕ → Option (Option (List ℕ)) = command_var c.loop-variable.command in
    let new : List ℕ → Option (Option (List ℕ)) = command_var c.set_variable.new.command in
    let v = c.variable-item.result in
    let i = c.loop-variable.invariant in
    let e = c.in_ok-set_variable.ensures in
    let said = said_now (utf8 v.name) (Some (Some (utf8 v.value))) old new e.set e.others in (
      λ k. set_step c.as_slice-variable-items.result.now c.loop-variable.variable-index v k (old k) (new k) (search) c.variable-item.is (said k) ∙ i.0 k,
      e.inherits ∙ i.1,
      (e.call.0 ∙ i.2.0, e.call.1 ∙ i.2.1),
      e.dir ∙ i.3,
    )
