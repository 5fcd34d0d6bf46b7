-- Children and pending cleanups of a launcher that stores a state (`ChildSlot`) for each case.
use Rattle.std.specs.Prelude.{ℕ, Bool, true, false, List, Option, Some, None, slice_index_or}
use Rattle.kt_base.specs.declared.child.Role.{Role}
use Rattle.kt_base.specs.declared.child.Role.TheVariants.{Body, Cleanup}
use Rattle.kt_sched.specs.Children.{Child}
use Rattle.kt_doubles.specs.declared.children.ChildSlot.{ChildSlot}
use Rattle.kt_doubles.specs.declared.children.ChildSlot.TheVariants.{Free, BodyRunning, CleanupPending, CleanupRunning}

-- `child_in slot role`: the running child in the role `role` of a case with the state `slot`, or
-- `None`.
abbrev pub child_in : ChildSlot → Role → Option Child
child_in (BodyRunning interface cleanup) Body = Some (record { interface = interface; cleanup = cleanup })
child_in (CleanupRunning interface cleanup) Cleanup = Some (record { interface = interface; cleanup = cleanup })
child_in slot role = None

-- `is_pending_slot slot`: `true` if a case with the state `slot` has a pending cleanup.
abbrev pub is_pending_slot : ChildSlot → Bool
is_pending_slot CleanupPending = true
is_pending_slot slot = false

-- `running_child_at slots k role`: the running child in the role `role` of the case at position
-- `k` of `slots`, or `None`.
abbrev pub running_child_at : List ChildSlot → ℕ → Role → Option Child
running_child_at slots k role = child_in (slice_index_or slots k Free) role

-- `is_cleanup_pending slots k`: `true` if the case at position `k` of `slots` has a pending
-- cleanup.
abbrev pub is_cleanup_pending : List ChildSlot → ℕ → Bool
is_cleanup_pending slots k = is_pending_slot (slice_index_or slots k Free)
