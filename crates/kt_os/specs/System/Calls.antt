-- Calls to the system, with their results.
use Rattle.std.specs.Prelude.{ℕ, List, Bool, Result}
use Rattle.kt_os.specs.Types.{Child, EnvPlan, FileRead, OsFault, ChildState}

-- `Call`: a call to the system (`Os`), with its arguments and its result. The result is `answer`,
-- or `done`, which is `true` if the call succeeded.
pub data Call : Type 0 where
  SetLimit : (child : Child) (limit : ℕ) → Call
  MakeDir : (path : List ℕ) (answer : Result (Unit {0}) OsFault) → Call
  RemoveTree : (path : List ℕ) (done : Bool) → Call
  OpenOutput : (child : Child) (path : List ℕ) (answer : Result (Unit {0}) OsFault) → Call
  Spawn : (child : Child) (program : List ℕ) (words : List (List ℕ)) (env : EnvPlan) (dir : List ℕ) (answer : Result (Unit {0}) OsFault) → Call
  Poll : (child : Child) (answer : Result ChildState OsFault) → Call
  Kill : (child : Child) (done : Bool) → Call
  Pause : (done : Bool) → Call
  ReadFile : (path : List ℕ) (limit : ℕ) (answer : Result FileRead OsFault) → Call
  ReadPart : (path : List ℕ) (from : ℕ) (limit : ℕ) (answer : Result FileRead OsFault) → Call
  Now : (answer : Result ℕ OsFault) → Call
