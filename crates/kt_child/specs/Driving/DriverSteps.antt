-- The steps of a driver: starts, waits and listings of test cases.
use Rattle.std.specs.Prelude.{◌≡◌, ℕ, List}
use Rattle.kt_child.specs.Types.{Chain, Ended, Job, Listing, Role, StartAnswer, Variable}
use Rattle.kt_child.specs.declared.driving.driver.Driver.{Driver}
use Rattle.kt_os.specs.System.Calls.{Call}
use Rattle.kt_child.specs.Driving.DriverState.{Starts, WaitsForEnd, driver_state}
use Rattle.kt_child.specs.Driving.Lists.{ListsProgram}

-- `leads` is the relation of the system's calls.
module _ {O : Type 0} (leads : O → Call → O → Type 0) where
  -- `DriverStarts old job role answer new`: `new` is the driver `old` after the start of a child
  -- for `job` in `role`, with the result `answer`. The directories `source` and `root` are
  -- unchanged.
  abbrev pub DriverStarts : Driver O → Job → Role → StartAnswer → Driver O → Type 0
  DriverStarts old job role answer new =
      ((calls : List Call) × Chain leads old.os calls new.os × Starts old.source old.root (driver_state old) job role calls answer (driver_state new))
      × (new.source ≡ old.source) × (new.root ≡ old.root)

  -- `DriverWaits old ended new`: `new` is the driver `old` after a wait that returned `ended`, the
  -- end of one child. The directories `source` and `root` are unchanged.
  abbrev pub DriverWaits : Driver O → Ended → Driver O → Type 0
  DriverWaits old ended new =
      ((calls : List Call) × Chain leads old.os calls new.os × WaitsForEnd old.running.children (driver_state old) calls ended new.running.children (driver_state new))
      × (new.source ≡ old.source) × (new.root ≡ old.root)

  -- `DriverLists old program variables answer new`: `new` is the driver `old` after it listed the
  -- test cases of `program`, with the suite's `variables` and the result `answer`. The running
  -- children and the directories `source` and `root` are unchanged.
  abbrev pub DriverLists : Driver O → List ℕ → List Variable → Listing → Driver O → Type 0
  DriverLists old program variables answer new =
      ListsProgram leads old program variables answer new × (new.running ≡ old.running) × (new.source ≡ old.source) × (new.root ≡ old.root)
