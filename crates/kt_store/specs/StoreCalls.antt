-- The calls of a store of runs, with their results.
use Rattle.std.specs.Prelude.{ℕ, List, Option, Result, Ok, Err}
use Rattle.kt_store.specs.Types.{CaseOutputs, Entry, RunHead, StoreFault, Variable}

-- A call of `ResultStore` with its result (`answer`). `number` is the number of the run, and
-- `position` is the position of the entry. `Began` begins a run of `total` cases at the timestamp
-- `moment`. `Put` puts `entry` into a run, and `Finished` finishes a run. `Head` reads the head of
-- the run `number`, or of the last run if `number` is `None`. `Outline` reads the entries of a run,
-- but not their properties and outputs. `Pairs` reads the properties of one entry, and `Outputs`
-- reads its outputs.
pub data StoreCall : Type 0 where
  Began : (total moment : ℕ) (answer : Result ℕ StoreFault) → StoreCall
  Put : (number : ℕ) (entry : Entry) (answer : Result (Unit {0}) StoreFault) → StoreCall
  Finished : (number : ℕ) (answer : Result (Unit {0}) StoreFault) → StoreCall
  Head : (number : Option ℕ) (answer : Result (Option RunHead) StoreFault) → StoreCall
  Outline : (number : ℕ) (answer : Result (List Entry) StoreFault) → StoreCall
  Pairs : (number position : ℕ) (answer : Result (List Variable) StoreFault) → StoreCall
  Outputs : (number position : ℕ) (answer : Result CaseOutputs StoreFault) → StoreCall

-- `map_success see result`: `result` with the function `see` applied to its value. An error is
-- unchanged.
abbrev pub map_success : {T U : Type 0} → (T → U) → Result T StoreFault → Result U StoreFault
map_success see (Ok x) = Ok (see x)
map_success see (Err fault) = Err fault
