-- The running children of a driver, and the cases with a pending cleanup.
use Rattle.std.specs.Prelude.{map, ℕ, Bool, true, false, ◌==◌, ◌&&◌, List, [], ◌∷◌, ◌++◌, Option, Some, None, if◌then◌else◌}
use Rattle.kt_child.specs.Types.{CaseAttempt, Role, RunningChild}
use Rattle.kt_sched.specs.Children.{Child as Shown, is_same_role}
use Rattle.kt_child.specs.Ending.Ends.{is_last_child}

-- `ChildrenState`: the running children in the order of their start, and the cases with a pending
-- cleanup.
pub record ChildrenState : Type 0 where
  pub children : List RunningChild
  pub pending : List CaseAttempt

-- `idle_state`: the state in which no child is running and no cleanup is pending.
abbrev pub idle_state : ChildrenState
idle_state = record { children = []; pending = [] }

-- `cases_of children`: the cases of the running children `children`, in order.
abbrev pub cases_of : List RunningChild → List CaseAttempt
cases_of children = map (λ k. k.case) children

-- `launcher_child c`: the child of the case `c` as `Launcher` describes it: its interface, and
-- whether the case declares a cleanup.
abbrev pub launcher_child : CaseAttempt → Shown
launcher_child c = record { interface = c.interface; cleanup = c.cleanup }

-- `find_launcher_child cases k r`: the child (`launcher_child`) of the first case in `cases` that
-- has the position `k` and the role `r`. It is `None` if there is no such case.
abbrev pub find_launcher_child : List CaseAttempt → ℕ → Role → Option Shown
find_launcher_child [] k r = None
find_launcher_child (c ∷ cases) k r = if k == c.position && is_same_role r c.role then Some (launcher_child c) else find_launcher_child cases k r

-- `launcher_child_in b k r`: the running child (`launcher_child`) in the state `b` whose case has
-- the position `k` and the role `r`. It is `None` if there is no such child.
abbrev pub launcher_child_in : ChildrenState → ℕ → Role → Option Shown
launcher_child_in b = find_launcher_child (cases_of b.children)

-- `is_among cases k`: a case in `cases` has the position `k`.
abbrev pub is_among : List CaseAttempt → ℕ → Bool
is_among [] k = false
is_among (c ∷ cases) k = if k == c.position then true else is_among cases k

-- `pending_with c pending`: the cases with a pending cleanup after the current child of the case
-- `c` has ended. They were `pending` before, and `c` is appended if a cleanup follows.
abbrev pub pending_with : CaseAttempt → List CaseAttempt → List CaseAttempt
pending_with c pending = if is_last_child c then pending else pending ++ c ∷ []
