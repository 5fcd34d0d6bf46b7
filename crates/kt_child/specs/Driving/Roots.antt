-- The root directory of a driver.
use Rattle.std.specs.Prelude.{◌≡◌, ◌<◌, ℕ, zero, suc, List, [], ◌∷◌, ◌++◌, Result, Ok, Err, codes}
use Rattle.std.specs.Fmt.{decimal}
use Rattle.kt_child.specs.Types.{OsFault}
use Rattle.kt_child.specs.declared.driving.driver.DriverFault.{DriverFault}
use Rattle.kt_child.specs.declared.driving.driver.DriverFault.TheVariants.{NoMemory, NoWorkDirectory}
use Rattle.kt_os.specs.declared.system.OsFault.TheVariants.{Failed, Memory}
use Rattle.kt_os.specs.System.Calls.{Call, MakeDir}

-- `root_of base number`: the path `BASE/kyua.NUMBER` of a driver's root directory below the
-- directory `base`.
abbrev pub root_of : List ℕ → ℕ → List ℕ
root_of base number = base ++ codes "/kyua." ++ decimal number

-- `FailsToCreateRoots base n calls`: `calls` are `n` failed calls, which try to create the root
-- directories `kyua.0`, `kyua.1` and so on below `base`, in order.
abbrev pub FailsToCreateRoots : List ℕ → ℕ → List Call → Type 0
FailsToCreateRoots base zero calls = calls ≡ []
FailsToCreateRoots base (suc n) calls =
    (before : List Call) × (fault : OsFault) × FailsToCreateRoots base n before × (calls ≡ before ++ MakeDir (root_of base n) (Err fault) ∷ [])

-- `CreatesRoot base calls result`: `calls` try to create the root directories `kyua.0` to
-- `kyua.999` below `base`, in order, until one succeeds. `result` is the path of the created
-- directory. If an allocation fails, `result` is `NoMemory`, and `calls` are the failed calls
-- before the allocation. If all 1,000 calls fail, `result` is `NoWorkDirectory`.
abbrev pub CreatesRoot : List ℕ → List Call → Result (List ℕ) DriverFault → Type 0
CreatesRoot base calls (Ok root) =
    (n : ℕ) × (n < 1000) × (failed : List Call) × FailsToCreateRoots base n failed
    × (calls ≡ failed ++ MakeDir (root_of base n) (Ok tt) ∷ []) × (root ≡ root_of base n)
CreatesRoot base calls (Err (NoMemory refusal)) = (n : ℕ) × (n < 1000) × FailsToCreateRoots base n calls
CreatesRoot base calls (Err NoWorkDirectory) = FailsToCreateRoots base 1000 calls

-- `driver_fault_of fault`: the error if a driver is not created because a call to the system failed
-- with `fault`.
abbrev pub driver_fault_of : OsFault → DriverFault
driver_fault_of (Memory refusal) = NoMemory refusal
driver_fault_of Failed = NoWorkDirectory

-- `driver_message fault`: the text of the error message of `fault`.
abbrev pub driver_message : DriverFault → List ℕ
driver_message (NoMemory refusal) = codes "out of memory"
driver_message NoWorkDirectory = codes "no work directory"
