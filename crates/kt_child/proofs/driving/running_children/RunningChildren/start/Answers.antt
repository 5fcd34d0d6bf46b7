use Rattle.std.proofs.Common.{rules, ◌∙◌, ◌++◌, ◌∷◌, [], ap}
use Rattle.kt_child.proofs.Common.{new_running_child}
use Rattle.kt_child.proofs.StateWaits.{state_started}
use Rattle.kt_child.proofs.driving.running_children.RunningChildren.start.Goals as goal

pub invariant_of-self-in-Started : goal.invariant_of-self-in-Started
invariant_of-self-in-Started g c =
    let k = new_running_child c.args.plan.now.limit c.args.case in (
      state_started c.self.inside.children.items c.push_reserved.new.self.items c.self.inside.pending.items c.ensure_capacity.new.pending.items k
          c.self.invariant.0 c.requires.on (rw (← c.self.view_is) at c.requires.free)
          (c.push_reserved.ensures.items ∙ ap (λ t. t ++ c.new_running_child.result ∷ []) c.ensure_capacity.ensures.children ∙ ap (λ t. c.self.inside.children.items ++ t ∷ []) c.new_running_child.ensures)
          c.ensure_capacity.ensures.pending,
      search rules,
    )
