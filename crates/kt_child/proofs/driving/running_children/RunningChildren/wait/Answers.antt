use Rattle.std.proofs.Common.{◌≡◌, ◌∙◌, ◌<◌, ◌++◌, drop, get_or, take, slice_get, Some, ap, sym, arith, length, List, remove}
use Rattle.kt_child.proofs.Common.{slice_get-get_or, take_at, Chain, Call, ChildrenState, cases_of, pending_with}
use Rattle.kt_child.proofs.BoardSteps.{waited_ends}
use Rattle.kt_child.proofs.CaseSteps.{Left, cases_waited}
use Rattle.kt_child.proofs.StateWaits.{state_after, waited_all, waited_one, waited_pending, waited_running}
use Rattle.kt_child.proofs.driving.running_children.RunningChildren.wait.Goals as goal

-- The slice of running children after the polls is the list that `poll_until_finished` returns.
polled : (g : _) (c : goal.After-remove_finished_child g)
    → take c.self.inside.children.len (c.poll_until_finished-first.new.children ++ drop (length c.poll_until_finished-first.new.children) c.self.inside.children.items)
    ≡ c.poll_until_finished-first.new.children
polled g c =
    let n : length c.poll_until_finished-first.new.children ≡ c.self.inside.children.len = c.poll_until_finished-first.ensures.same ∙ c.deref_mut.ensures.len in
    take_at c.poll_until_finished-first.new.children (drop (length c.poll_until_finished-first.new.children) c.self.inside.children.items) c.self.inside.children.len n

-- The finished child is at the returned index.
at : (g : _) (c : goal.After-remove_finished_child g) → slice_get c.poll_until_finished-first.new.children c.poll_until_finished-first.result.index ≡ Some c.index.result.now
at g c =
    let same = c.poll_until_finished-first.ensures.same in
    let i = c.poll_until_finished-first.result.index in
    let d = c.index.result.now in
    let lt : i < length c.poll_until_finished-first.new.children = omega (arith, c.poll_until_finished-first.ensures.place, same) in
    slice_get-get_or c.poll_until_finished-first.new.children i d lt ∙ ap (λ t. Some t) (sym (c.index.ensures ∙ ap (λ t. get_or t i d) (polled g c)))

-- The running children after the wait are those without the finished child.
still : (g : _) (c : goal.After-remove_finished_child g) → c.remove_finished_child.new.children.items ≡ remove c.poll_until_finished-first.new.children c.poll_until_finished-first.result.index
still g c = c.remove_finished_child.ensures.children ∙ ap (λ t. remove t c.poll_until_finished-first.result.index) (polled g c)

-- The pending cases after the wait include that of the finished child if its cleanup must run.
owed : (g : _) (c : goal.After-remove_finished_child g) → c.remove_finished_child.new.pending.items ≡ pending_with c.index.result.now.case c.self.inside.pending.items
owed g c = c.remove_finished_child.ensures.pending c.index.result.now (ap (λ t. slice_get t c.poll_until_finished-first.result.index) (polled g c) ∙ at g c)

pub invariant_of-self : goal.invariant_of-self
invariant_of-self g c =
    let w = c.poll_until_finished-first.ensures.waited.2 in
    let same = cases_waited _ _ _ _ _ w ∙ ap cases_of c.deref_mut.ensures.value in (
      state_after c.self.inside.children.items c.poll_until_finished-first.new.children c.remove_finished_child.new.children.items c.self.inside.pending.items c.remove_finished_child.new.pending.items
          c.poll_until_finished-first.result.index c.index.result.now c.self.invariant.0 same c.poll_until_finished-first.ensures.on (at g c) (still g c) (owed g c),
      c.remove_finished_child.ensures.room,
    )

-- `old g c` and `new g c`: the states before and after the wait.
abbrev old : (g : _) → goal.After-remove_finished_child g → ChildrenState
old g c = record { children = c.self.inside.children.items; pending = c.self.inside.pending.items }

abbrev new : (g : _) → goal.After-remove_finished_child g → ChildrenState
new g c = record { children = c.remove_finished_child.new.children.items; pending = c.remove_finished_child.new.pending.items }

waited : (g : _) (c : goal.After-remove_finished_child g) → (calls : List Call) × Chain g.O.Os.leads c.args.os.now calls c.finish_child-ended.new.os × ((w : Left (old g c) calls c.finish_child-ended.result (new g c)) × (w.over ≡ c.index.result.now))
waited g c =
    waited_all g.O.Os.leads c.args.os.now c.poll_until_finished-first.new.os c.finish_child-ended.new.os (old g c) (new g c) c.deref_mut.result.now c.poll_until_finished-first.new.children
    c.poll_until_finished-first.result.index c.poll_until_finished-first.result.outcome c.index.result.now c.finish_child-ended.result
    c.poll_until_finished-first.ensures.waited c.finish_child-ended.ensures.left c.deref_mut.ensures.value (at g c) (still g c) (owed g c)

pub returns-clause-waited : goal.returns-clause-waited
returns-clause-waited g c =
    let e = c.finish_child-ended.result in
    let w = waited g c in
    rw (← c.self.view_is) (w.0, w.1, waited_ends (old g c) (new g c) w.0 e c.self.invariant.0.on w.2.0)

pub returns-clause-one_that_ran : goal.returns-clause-one_that_ran
returns-clause-one_that_ran g c =
    let e = c.finish_child-ended.result in
    let w = waited g c in
    rw (← c.self.view_is) (waited_one (old g c) (new g c) w.0 e c.self.invariant.0.once w.2.0 (rw w.2.1 c.finish_child-ended.ensures.evidence))

pub returns-clause-running : goal.returns-clause-running
returns-clause-running g c = rw (← c.self.view_is) (waited_running _ _ _ _ c.self.invariant.0.once (waited g c).2.0)

pub returns-clause-pending : goal.returns-clause-pending
returns-clause-pending g c = rw (← c.self.view_is) (waited_pending _ _ _ _ c.self.invariant.0.once (waited g c).2.0)
