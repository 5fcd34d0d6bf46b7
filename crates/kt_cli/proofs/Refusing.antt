-- The faults because of which a driver can't be created.
use Rattle.std.proofs.Common.{List, ℕ, [], arith, refl}
use Rattle.kt_cli.proofs.Common.{FailsToCreateRoot, none_made}
use Rattle.kt_base.specs.declared.no_memory.NoMemory.{NoMemory as OutOfMemory}
use Rattle.kt_child.specs.declared.driving.driver.DriverFault.TheVariants.{NoMemory}
use Rattle.kt_os.specs.declared.system.os.Os as system

-- a failed allocation before the first call of the system meets `FailsToCreateRoot`
pub none_asked : {O : Type 0} (o : system.Ghosts O) (os : O) (base : List ℕ) (refusal : OutOfMemory) → FailsToCreateRoot o os base (NoMemory refusal) os
none_asked o os base refusal = none_made (NoMemory refusal) [] os refl (0, omega arith, refl)
