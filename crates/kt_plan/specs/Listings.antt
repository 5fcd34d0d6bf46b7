-- The programs that the Kyuafile of a command registers.
use Rattle.std.specs.Prelude.{ℕ, true, false, List, [], ◌≡◌, Err}
use Rattle.kt_plan.specs.Types.{Asked, NoMemory as OutOfMemory, SuiteFault}
use Rattle.kt_suite.specs.Paths.{name_in}
use Rattle.kt_base.specs.Texts.{is_empty}
use Rattle.kt_suite.specs.declared.cause.SuiteCause.TheVariants.{NoMemory, Unreadable}
use Rattle.kt_suite.specs.Faults.{fault_at}
use Rattle.kt_suite.specs.Registered.{LoadResult, Registered, Unfinished}

-- `Loads kyuafile load_calls outcome`: `outcome` has the programs that the Kyuafile at the path
-- `kyuafile` registers, or is the first error. `load_calls` are the calls to the tree. A path
-- without a file name, such as a path that ends in a slash, is unreadable. The error then has the
-- path `kyuafile`, and no call is made.
pub data Loads (kyuafile : List ℕ) : List Asked → LoadResult → Type 0 where
  unnamed : is_empty (name_in kyuafile) ≡ true → Loads kyuafile [] (Err (fault_at kyuafile 0 Unreadable))
  named : (load_calls : List Asked) (outcome : LoadResult) → is_empty (name_in kyuafile) ≡ false → Registered load_calls (name_in kyuafile) outcome → Loads kyuafile load_calls outcome

-- `IsLoadPrefix kyuafile load_calls`: the load of the Kyuafile at the path `kyuafile` may have made
-- exactly the calls `load_calls`, to read Kyuafiles, before an allocation failed. If one of the
-- reads reported the failed allocation, `load_calls` includes it.
pub data IsLoadPrefix (kyuafile : List ℕ) : List Asked → Type 0 where
  before_tree : IsLoadPrefix kyuafile []
  unfinished : (load_calls : List Asked) (outcome : LoadResult) → Unfinished load_calls (name_in kyuafile) outcome → IsLoadPrefix kyuafile load_calls
  by_tree : (load_calls : List Asked) (fault : SuiteFault) (refusal : OutOfMemory) → fault.cause ≡ NoMemory refusal → Loads kyuafile load_calls (Err fault) → IsLoadPrefix kyuafile load_calls
