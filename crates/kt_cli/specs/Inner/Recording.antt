-- The recording of an entry: the entry is put into a run, and then its line is printed.
use Rattle.std.specs.Prelude.{ℕ, Bool, List, [], ◌∷◌, ◌≡◌, Option, Result, Ok, Err}
use Rattle.kt_cli.specs.Types.{Entry, Put, Run, SinkFault, StoreFault, line_bytes}
use Rattle.kt_sched.specs.declared.sink.SinkFault.TheVariants.{Memory, Other}
use Rattle.kt_store.specs.declared.result_store.StoreSpec as keeping
use Rattle.kt_store.specs.declared.store_fault.StoreFault.TheVariants.{NoMemory}
use Rattle.kt_cli.specs.Inner.Pages.{WritesNext}
use Rattle.kt_cli.specs.Inner.Stores.{runs_after_puts}
use Rattle.kt_cli.specs.Stores.{CallsStore}

-- `sink_fault_of fault`: the fault that a `Sink` returns to the scheduler for the store's `fault`.
abbrev pub sink_fault_of : StoreFault → SinkFault
sink_fault_of (NoMemory shortage) = Memory
sink_fault_of other = Other

-- `HasRecorded Stands number store put`: `store` represents some runs with the entries `put` added
-- to run `number`. `Stands store runs` states that `store` represents `runs`.
abbrev pub HasRecorded : {R : Type 0} → (R → List Run → Type 0) → ℕ → R → List Entry → Type 0
HasRecorded Stands number store put = (first : List Run) × Stands store (runs_after_puts number put first)

-- `Recording R`: the state of a `Recorder` over a store of type `R`: the store, the number of the
-- run, whether a write has failed, and the content of the writer (`held`).
pub record Recording (R : Type 0) : Type 0 where
  pub store : R
  pub number : ℕ
  pub failed : Bool
  pub held : Option (List ℕ)

-- `recording store number failed held`: the `Recording` of a recorder with the store `store`, the
-- run `number` and the writer's content `held`. `failed` is whether a write has failed.
abbrev pub recording : {R : Type 0} → R → ℕ → Bool → Option (List ℕ) → Recording R
recording store number failed held = record { store = store; number = number; failed = failed; held = held }

module _ {R : Type 0} (r : keeping.Ghosts R) where
  -- `RecordsEntry r old e result new`: a put of the entry `e` into a recorder in state `old` led to
  -- state `new`, with the result `result`. If the put into the store succeeded, the entry's line
  -- was written, or a proper prefix if the write failed. After an earlier failed write, nothing was
  -- written. If the put into the store failed, nothing was written either. `r` is the specification
  -- of the store.
  abbrev pub RecordsEntry : Recording R → Entry → Result (Unit {0}) SinkFault → Recording R → Type 0
  RecordsEntry old e (Ok x) new =
      (new.number ≡ old.number) × CallsStore r (Put old.number e (Ok tt) ∷ []) old.store new.store × WritesNext old.held old.failed new.held new.failed (line_bytes e)
  RecordsEntry old e (Err f) new =
      (new.number ≡ old.number) × ((fault : StoreFault) × (f ≡ sink_fault_of fault) × CallsStore r (Put old.number e (Err fault) ∷ []) old.store new.store) × (new.failed ≡ old.failed) × (new.held ≡ old.held)
