-- The states of the host's children.
use Rattle.std.specs.Prelude.{◌≡◌, ◌==◌, ◌&&◌, Bool, true, false, Option, Some, None, IsSome, IsSomeAnd, option_map, List}
use Rattle.std.specs.Map.{lookup}
use Rattle.std.specs.Option.{option_and_then}
use Rattle.std.specs.Process.{child_status}
use Rattle.std.specs.declared.process.status.ExitStatus.{ExitStatus}
use Rattle.kt_os.specs.Types.{Body, Child, Cleanup, Role}
use Rattle.kt_os.specs.declared.host.host_child.HostChild.{HostChild}

-- `is_same_role role other`: `true` if the roles `role` and `other` are equal.
abbrev pub is_same_role : Role → Role → Bool
is_same_role Body Body = true
is_same_role Cleanup Cleanup = true
is_same_role one other = false

-- `is_same_child a b`: `true` if the children `a` and `b` have the same attempt number and the same
-- role.
abbrev pub is_same_child : Child → Child → Bool
is_same_child a b = (a.attempt == b.attempt) && is_same_role a.role b.role

-- `ProcessState`: the state of a child. It is `None` without a process, `Some None` for a process
-- without a known end, and `Some (Some status)` for a process that ended with `status`.
abbrev pub ProcessState : Type 0
ProcessState = Option (Option ExitStatus)

module _ {P I O E : Type 0} where
  -- `process_state h`: the `ProcessState` of the child `h`: whether it has a process, and the
  -- status with which that process ended, if known.
  abbrev pub process_state : HostChild P I O E → ProcessState
  process_state h = option_map child_status h.process

  -- `process_state_in held c`: the state of the child `c` in `held`, the list of the host's
  -- children with their names. A child that is not in the list has no process.
  abbrev pub process_state_in : List (Child × HostChild P I O E) → Child → ProcessState
  process_state_in held c = option_and_then process_state (lookup (is_same_child c) held)

  -- `IsLastEnd last child status`: `last`, the child whose end was reported last, has the name
  -- `child`, and its process ended with `status`.
  abbrev pub IsLastEnd : Option (Child × HostChild P I O E) → Child → ExitStatus → Type 0
  IsLastEnd last child status = IsSomeAnd last (λ h. (h.0 ≡ child) × (process_state h.1 ≡ Some (Some status)))

-- `Proceeds old new`: the state of a child may go from `old` to `new`. It stays, or the end of its
-- process becomes known. No process is started.
abbrev pub Proceeds : ProcessState → ProcessState → Type 0
Proceeds None new = new ≡ None
Proceeds (Some None) new = IsSome new
Proceeds (Some (Some status)) new = new ≡ Some (Some status)

-- `AllProceed old new`: the states of all children go from `old` to `new`. Each state stays, or the
-- end of the child's process becomes known (`Proceeds`).
abbrev pub AllProceed : (Child → ProcessState) → (Child → ProcessState) → Type 0
AllProceed old new = (c : Child) → Proceeds (old c) (new c)

-- `AllStay old new`: each child has the same state in `old` and `new`.
abbrev pub AllStay : (Child → ProcessState) → (Child → ProcessState) → Type 0
AllStay old new = (c : Child) → new c ≡ old c

-- `OthersStay child old new`: each child but `child` has the same state in `old` and `new`.
abbrev pub OthersStay : Child → (Child → ProcessState) → (Child → ProcessState) → Type 0
OthersStay child old new = (c : Child) → is_same_child child c ≡ false → new c ≡ old c
