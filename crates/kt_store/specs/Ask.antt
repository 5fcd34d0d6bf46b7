-- The state of a connection after a failed call of SQLite, and the faults that the store returns
-- for it.
use Rattle.std.specs.Prelude.{◌⊎◌, ⊤, ℕ, List, codes}
use Rattle.kt_store.specs.Types.{IsRolledBack, IsUnchanged, NoMemory, State, Store, StoreFault}

-- `IsUnchangedOrRolledBack old new`: from state `old` to state `new` of a connection, nothing
-- changed, or the open transaction was rolled back
abbrev pub IsUnchangedOrRolledBack : State → State → Type 0
IsUnchangedOrRolledBack old new = IsUnchanged old new ⊎ IsRolledBack old new

-- `IsNoMemory fault`: `fault` reports that memory ran out
abbrev pub IsNoMemory : StoreFault → Type 0
IsNoMemory (NoMemory refusal) = ⊤
IsNoMemory _ = ⊥

-- `IsDatabaseFault fault`: `fault` reports that memory ran out or that the database failed
abbrev pub IsDatabaseFault : StoreFault → Type 0
IsDatabaseFault (NoMemory refusal) = ⊤
IsDatabaseFault (Store statement) = ⊤
IsDatabaseFault _ = ⊥

-- `fault_message fault`: the message that a command prints for `fault`, in characters
abbrev pub fault_message : StoreFault → List ℕ
fault_message (NoMemory refusal) = codes "out of memory"
fault_message _ = codes "results store failed"
