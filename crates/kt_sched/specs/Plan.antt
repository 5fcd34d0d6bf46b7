-- Plans: lists of one job for each case, each job at its position.
use Rattle.std.specs.Prelude.{ℕ, List, true, ◌≡◌, ◌≤◌, Some, slice_get}
use Rattle.kt_sched.specs.Types.{Job}
use Rattle.kt_base.specs.Limits.{longest_timeout_seconds, largest_width}
use Rattle.kt_base.specs.declared.child.Interface.TheVariants.{Atf}

-- `IsStartableJob job`: `job` can be started: its timeout is 1 to 1,000,000 seconds, and only an
-- ATF case declares a cleanup.
pub record IsStartableJob (job : Job) : Type 0 where
  pub timed : 1 ≤ job.timeout
  pub limited : job.timeout ≤ longest_timeout_seconds
  pub cleanup : job.cleanup ≡ true → job.interface ≡ Atf

-- `IsPlan plan`: the position of each job of `plan` is its index in `plan`, and the job can be
-- started (`IsStartableJob`).
pub record IsPlan (plan : List Job) : Type 0 where
  pub placed : (i : ℕ) (job : Job) → slice_get plan i ≡ Some job → job.position ≡ i
  pub fit : (i : ℕ) (job : Job) → slice_get plan i ≡ Some job → IsStartableJob job

-- `IsWidth n`: the width `n`, the greatest number of active cases, is 1 to 256.
pub record IsWidth (n : ℕ) : Type 0 where
  pub positive : 1 ≤ n
  pub limited : n ≤ largest_width
