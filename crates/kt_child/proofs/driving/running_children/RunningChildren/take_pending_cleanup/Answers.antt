use Rattle.std.proofs.Common.{◌≡◌, ◌∙◌, ◌<◌, List, slice_get, Some, ap, sym, arith, length}
use Rattle.kt_child.proofs.Common.{slice_get-get_or, CaseAttempt, ChildrenState, cases_of}
use Rattle.kt_child.proofs.StateWaits.{free_taken, state_taken}
use Rattle.kt_child.proofs.OwedCases.{among_remove}
use Rattle.kt_child.proofs.driving.running_children.RunningChildren.take_pending_cleanup.Goals as goal

at : (c : goal.After-remove) → slice_get c.self.inside.pending.items c.find_case_index-place.result ≡ Some c.remove.result
at c =
    let lt : c.find_case_index-place.result < length c.self.inside.pending.items =
    omega (arith, ap length c.deref.ensures.value, c.find_case_index-place.ensures.within) in
    slice_get-get_or c.self.inside.pending.items c.find_case_index-place.result c.remove.result lt ∙ ap Some (sym c.remove.ensures.value)

there : (c : goal.After-remove) → c.remove.result.position ≡ c.args.position
there c =
    c.find_case_index-place.ensures.position c.remove.result (rw c.deref.ensures.value (at c))

pub invariant_of-self : goal.invariant_of-self
invariant_of-self c = (
  state_taken c.self.inside.children.items c.self.inside.pending.items c.remove.new.self.items
      c.find_case_index-place.result c.remove.result c.self.invariant.0 (at c) c.remove.ensures.items,
  omega (arith, c.remove.ensures.len, c.remove.ensures.capacity, c.self.invariant.1),
)

pub returns-clause-taken : goal.returns-clause-taken
returns-clause-taken c =
    let F : List CaseAttempt → ChildrenState = λ t. record { children = c.self.inside.children.items; pending = t } in
    rw (← c.self.view_is) (c.find_case_index-place.result, at c, ap F c.remove.ensures.items)

pub returns-clause-position : goal.returns-clause-position
returns-clause-position c = there c

pub returns-clause-free : goal.returns-clause-free
returns-clause-free c =
    rw (← there c, c.remove.ensures.items)
    (free_taken (cases_of c.self.inside.children.items) c.self.inside.pending.items c.find_case_index-place.result c.remove.result
    c.self.invariant.0.once (at c))

pub returns-clause-pending : goal.returns-clause-pending
returns-clause-pending c k =
    rw (← c.self.view_is, ← there c, c.remove.ensures.items)
    (among_remove c.self.inside.pending.items c.find_case_index-place.result c.remove.result k (at c)
    (omega (arith, c.self.invariant.0.once c.remove.result.position)))
