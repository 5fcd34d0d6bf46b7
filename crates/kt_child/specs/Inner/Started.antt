-- The common contract of the two functions that start a child of a driver.
use Rattle.std.specs.Prelude.{◌≡◌, ℕ}
use Rattle.kt_child.specs.Types.{Job, Role, StartAnswer}
use Rattle.kt_child.specs.declared.driving.driver.Driver.{Driver}
use Rattle.kt_os.specs.System.Calls.{Call}
use Rattle.kt_child.specs.Driving.ChildrenState.{is_among, launcher_child_in}
use Rattle.kt_child.specs.Driving.DriverSteps.{DriverStarts}
use Rattle.kt_sched.specs.Children.{pending_after_start, running_after_start}
use Rattle.kt_sched.specs.Trace.{HasValidTimestamp}

-- `IsStart leads old job role answer new`: `new` is the driver `old` after a start of `job`'s child
-- in `role` with the result `answer`. A timestamp in `answer` is before the year 10000. The running
-- children and pending cleanups of `new` are those of `old`, changed by this start. `leads` is the
-- relation of the system's calls.
pub record IsStart {O : Type 0} (leads : O → Call → O → Type 0) (old : Driver O) (job : Job) (role : Role) (answer : StartAnswer) (new : Driver O) : Type 0 where
  pub starts : DriverStarts leads old job role answer new
  pub moment : HasValidTimestamp answer
  pub running : (k : ℕ) (r : Role) → launcher_child_in new.running k r ≡ running_after_start (launcher_child_in old.running) job role answer k r
  pub pending : (k : ℕ) → is_among new.running.pending k ≡ pending_after_start (is_among old.running.pending) job.position role k
