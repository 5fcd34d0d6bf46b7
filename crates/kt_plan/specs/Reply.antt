-- Calls to the host, with their results.
use Rattle.std.specs.Prelude.{ℕ, Bool, List, Option, Result}
use Rattle.kt_plan.specs.Types.{Listing, Need, Program, ReadFault, Variable}

-- `Reply`: a call to the host with its result (`answer` or `moment`). `ReadConfig` reads the
-- configuration file at `path`. `Lists` runs `program` with `variables` to list its cases. `Finds`
-- checks whether `word`, a file or program as `need` states, exists. `IsRoot` reads whether the
-- user is root. `HasMemory` reads the memory and `HasDisk` the free disk space, both in bytes.
-- `Now` reads the time, in milliseconds since 1970 in UTC.
pub data Reply : Type 0 where
  ReadConfig : (path : List ℕ) (answer : Result (List ℕ) ReadFault) → Reply
  Lists : (program : Program) (variables : List Variable) (answer : Listing) → Reply
  Finds : (need : Need) (word : List ℕ) (answer : Bool) → Reply
  IsRoot : (answer : Bool) → Reply
  HasMemory : (answer : Option ℕ) → Reply
  HasDisk : (answer : Option ℕ) → Reply
  Now : (moment : ℕ) → Reply
