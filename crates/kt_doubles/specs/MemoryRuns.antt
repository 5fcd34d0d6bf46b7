-- `MemRuns`, a store of runs in memory: the relations that specify it, and its calls.
use Rattle.std.specs.Prelude.{ℕ, suc, nat_lt, if◌then◌else◌, List, [], ◌∷◌, ◌≡◌, ◌<◌, None, Result, Ok, Err, length, ⊤}
use Rattle.kt_base.specs.declared.entry.Entry.{Entry}
use Rattle.kt_base.specs.declared.entry.Run.{Run}
use Rattle.kt_store.specs.Runs.{AreNumbered, AreOrdered, run_at}
use Rattle.kt_store.specs.Serving.{Agrees, runs_after}
use Rattle.kt_store.specs.StoreCalls.{StoreCall}
use Rattle.kt_store.specs.declared.result_store.StoreSpec as keeping
use Rattle.kt_store.specs.declared.store_fault.StoreFault.{StoreFault}
use Rattle.kt_store.specs.declared.store_fault.StoreFault.TheVariants.{NoRun}

-- `AllowsAnyCallInMemory m call n`: the call `call` may lead a store from the runs `m` to `n`. The
-- relation always holds, because each call has its own contract.
abbrev pub AllowsAnyCallInMemory : List Run → StoreCall → List Run → Type 0
AllowsAnyCallInMemory m call n = Unit {0}

-- `RepresentsInMemory m runs`: the store `m` contains exactly `runs`, which are numbered from 1,
-- with entries that ascend by position.
abbrev pub RepresentsInMemory : List Run → List Run → Type 0
RepresentsInMemory m runs = (m ≡ runs) × AreNumbered 1 runs × AreOrdered runs

-- `IsSoundInMemory m`: the store `m` is sound. The predicate always holds, because memory returns
-- what was written.
abbrev pub IsSoundInMemory : List Run → Type 0
IsSoundInMemory m = ⊤

-- `LeavesInMemory m may`: a crash of the store `m` leaves one of the lists of runs `may`. The
-- relation always holds, because a crash leaves no store in memory, so it can't leave wrong runs.
abbrev pub LeavesInMemory : List Run → List (List Run) → Type 0
LeavesInMemory m may = ⊤

-- The specification of a store of runs in memory: the four relations and two facts of `StoreSpec`.
abbrev pub memory_runs : keeping.Ghosts (List Run)
memory_runs = record { answers = AllowsAnyCallInMemory; stands = RepresentsInMemory; sound = IsSoundInMemory; leaves = LeavesInMemory; numbered = λ m runs h. h.1; ordered = λ m runs h sound. h.2 }

-- ---- the calls

-- `ServesInMemory old call new`: the result of `call` is correct for the runs `old`. If the runs
-- `old` are numbered from 1, `new` are the runs after `call`.
abbrev pub ServesInMemory : List Run → StoreCall → List Run → Type 0
ServesInMemory old call new = Agrees old call × (AreNumbered 1 old → new ≡ runs_after call old)

-- `FindsRunIndex runs number result`: `result` is the index of run `number` in `runs`, or `NoRun`
-- if there is no such run.
abbrev pub FindsRunIndex : List Run → ℕ → Result ℕ StoreFault → Type 0
FindsRunIndex runs number (Ok index) = (number ≡ suc index) × (index < length runs)
FindsRunIndex runs number (Err fault) = (fault ≡ NoRun) × (run_at runs number ≡ None)

-- `insert_index position entries`: the number of `entries` before the first entry with a position
-- greater than `position`, or of all `entries` if there is no such entry.
abbrev pub insert_index : ℕ → List Entry → ℕ
insert_index position [] = 0
insert_index position (x ∷ es) = if nat_lt position x.position then 0 else suc (insert_index position es)
