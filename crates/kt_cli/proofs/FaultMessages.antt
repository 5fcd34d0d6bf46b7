-- The messages of faults are ASCII, so their bytes are their characters.
use Rattle.std.proofs.Common.{◌≡◌, refl}
use Rattle.kt_cli.proofs.Common.{chars, RunFault, SinkFailed, StoreFault}
use Rattle.kt_sched.specs.FaultMessages.{run_message}
use Rattle.kt_sched.specs.declared.sink.SinkFault.TheVariants as sink
use Rattle.kt_store.specs.Ask.{fault_message}
use Rattle.kt_store.specs.declared.store_fault.StoreFault.TheVariants as store
use Rattle.kt_child.specs.Driving.Roots.{driver_message}
use Rattle.kt_child.specs.declared.driving.driver.DriverFault.{DriverFault}
use Rattle.kt_child.specs.declared.driving.driver.DriverFault.TheVariants as driver

-- the characters of a run fault's message are its bytes
pub chars-run : (fault : RunFault) → chars (run_message fault) ≡ run_message fault
unfolding chars
chars-run (SinkFailed sink.Memory) = refl
chars-run _ = refl

-- the characters of a store fault's message are its bytes
pub chars-store : (fault : StoreFault) → chars (fault_message fault) ≡ fault_message fault
unfolding chars
chars-store (store.NoMemory shortage) = refl
chars-store (store.Store statement) = refl
chars-store _ = refl

-- the characters of a driver fault's message are its bytes
pub chars-driver : (fault : DriverFault) → chars (driver_message fault) ≡ driver_message fault
unfolding chars
chars-driver (driver.NoMemory refusal) = refl
chars-driver driver.NoWorkDirectory = refl
