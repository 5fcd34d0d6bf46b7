use Rattle.std.proofs.Common.{◌≡◌, ℕ, List, Option, Some, None, ◌∙◌, ap, if◌then◌else◌}
use Rattle.kt_os.proofs.Common.{command_var, utf8}
use Rattle.kt_os.proofs.HostSteps.{removed_step, said_now}
use Rattle.kt_os.proofs.host.command.remove_variables.Goals as goal

pub loop-name-preserved : goal.loop-name-preserved
loop-name-preserved c =
    let old : List ℕ → Option (Option (List ℕ)) = command_var c.loop-name.command in
    let new : List ℕ → Option (Option (List ℕ)) = command_var c.remove_variable.new.command in
    let i = c.loop-name.invariant in
    let e = c.in_ok-remove_variable.ensures in
    let here : new (utf8 c.name-item.result) ≡ Some None = e.removed ∙ ap (λ t. if t then None else Some None) i.1 in
    let said = said_now (utf8 c.name-item.result) (Some None) old new here e.others in (
      λ k. removed_step c.as_slice-name-items.result.now c.loop-name.name-index c.name-item.result k (old k) (new k) (search) c.name-item.is (said k) ∙ i.0 k,
      e.inherits ∙ i.1,
      (e.call.0 ∙ i.2.0, e.call.1 ∙ i.2.1),
      e.dir ∙ i.3,
    )
