-- The running children of a launcher, and its pending cleanups: those whose start is to be
-- requested.
use Rattle.std.specs.Prelude.{ℕ, Bool, true, false, ◌==◌, ◌&&◌, ◌≡◌, Option, Some, None, ⊤, if◌then◌else◌}
use Rattle.kt_sched.specs.Types.{Body, Cleanup, Ended, Job, Refused, Role, StartAnswer, Started}
use Rattle.kt_base.specs.declared.child.Interface.{Interface}
use Rattle.kt_base.specs.declared.child.Interface.TheVariants as interface
use Rattle.kt_claim.specs.declared.evidence.Evidence.{Evidence}
use Rattle.kt_claim.specs.declared.evidence.Evidence.TheVariants as evidence

-- `Child`: a running child: the interface of its program, and whether its case declares a cleanup.
pub record Child : Type 0 where
  pub interface : Interface
  pub cleanup : Bool

-- `child_of job`: a running child of `job`: the interface of its program, and whether its case
-- declares a cleanup.
abbrev pub child_of : Job → Child
child_of job = record { interface = job.interface; cleanup = job.cleanup }

-- `IsEvidence interface role evidence`: `evidence` is of the kind that a child in the role `role`
-- leaves. For a body, that is the kind of the interface `interface`. For a cleanup, it is `Plain`.
abbrev pub IsEvidence : Interface → Role → Evidence → Type 0
IsEvidence interface.Atf Body (evidence.Atf claim) = ⊤
IsEvidence interface.Tap Body (evidence.Tap tap) = ⊤
IsEvidence interface.Plain Body evidence.Plain = ⊤
IsEvidence kind Cleanup evidence.Plain = ⊤
IsEvidence kind role other = ⊥

-- `is_same_role role other`: `role` and `other` are equal.
abbrev pub is_same_role : Role → Role → Bool
is_same_role Body Body = true
is_same_role Cleanup Cleanup = true
is_same_role one other = false

-- `MayStart running pending i role`: given the running children `running` and the pending cleanups
-- `pending`, case `i` may start in the role `role`. A body may start if no child of its case runs
-- and no cleanup of its case is pending. A cleanup may start if it is pending.
abbrev pub MayStart : (ℕ → Role → Option Child) → (ℕ → Bool) → ℕ → Role → Type 0
MayStart running pending i Body = (running i Body ≡ None) × (running i Cleanup ≡ None) × (pending i ≡ false)
MayStart running pending i Cleanup = pending i ≡ true

-- `running_after_start running job role answer k r`: the running child of case `k` in the role `r`,
-- if any, after `job` was started in the role `role` with the response `answer`. `running` are the
-- running children before the start.
abbrev pub running_after_start : (ℕ → Role → Option Child) → Job → Role → StartAnswer → ℕ → Role → Option Child
running_after_start running job role (Started moment) k r = if k == job.position && is_same_role r role then Some (child_of job) else running k r
running_after_start running job role (Refused cause) k r = running k r

-- `pending_after_start pending i role k`: the cleanup of case `k` is pending after a start of case
-- `i` in the role `role`. `pending` are the pending cleanups before the start. A cleanup is not
-- pending after its start, even if the launcher refused it.
abbrev pub pending_after_start : (ℕ → Bool) → ℕ → Role → ℕ → Bool
pending_after_start pending i Body k = pending k
pending_after_start pending i Cleanup k = if k == i then false else pending k

-- `running_after_end running e k r`: the running child of case `k` in the role `r`, if any, after
-- the end `e`. `running` are the running children before the end. The child that ended doesn't run.
abbrev pub running_after_end : (ℕ → Role → Option Child) → Ended → ℕ → Role → Option Child
running_after_end running e k r = if k == e.position && is_same_role r e.role then None else running k r

-- `has_declared_cleanup child`: `child` exists, and its case declares a cleanup.
abbrev pub has_declared_cleanup : Option Child → Bool
has_declared_cleanup None = false
has_declared_cleanup (Some child) = child.cleanup

-- `pending_after_end running pending e k`: the cleanup of case `k` is pending after the end `e`.
-- `running` and `pending` are the running children and the pending cleanups before the end. The end
-- of a body makes its declared cleanup pending.
abbrev pub pending_after_end : (ℕ → Role → Option Child) → (ℕ → Bool) → Ended → ℕ → Bool
pending_after_end running pending e k =
    if k == e.position && (is_same_role e.role Body && has_declared_cleanup (running e.position Body)) then true else pending k

-- `IsIdle running pending`: `running` has no running child, and `pending` has no pending cleanup.
pub record IsIdle (running : ℕ → Role → Option Child) (pending : ℕ → Bool) : Type 0 where
  pub runs : (k : ℕ) (r : Role) → running k r ≡ None
  pub pends : (k : ℕ) → pending k ≡ false
