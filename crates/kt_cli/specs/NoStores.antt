-- The specification of `NoStore`, a store without runs, to which none can be added.
use Rattle.std.specs.Prelude.{⊤, List, [], ◌≡◌}
use Rattle.kt_cli.specs.Types.{AreNumbered, Run, StoreCall}
use Rattle.kt_store.specs.declared.result_store.StoreSpec as keeping
use Rattle.kt_store.specs.Runs.{AreOrdered}

-- `AllowsAnyCall s call t`: `call` may lead the store from `s` to `t`. The relation always holds:
-- the store has one state, and the clauses of a command state which calls the command makes.
abbrev pub AllowsAnyCall : Unit {0} → StoreCall → Unit {0} → Type 0
AllowsAnyCall s call t = Unit {0}

-- `HasNoRuns s runs`: the store `s` represents the list `runs`, which is empty.
abbrev pub HasNoRuns : Unit {0} → List Run → Type 0
HasNoRuns s runs = (runs ≡ []) × AreNumbered 1 runs × AreOrdered runs

-- `IsNeverSound s`: the store `s` is sound. The predicate never holds: a sound store without runs
-- can begin a run, and this store can't.
abbrev pub IsNeverSound : Unit {0} → Type 0
IsNeverSound s = ⊥

-- `LeavesAny s may`: a crash of the store `s` leaves one of the lists of runs `may`. The relation
-- always holds: there is no file in which a crash could leave wrong runs.
abbrev pub LeavesAny : Unit {0} → List (List Run) → Type 0
LeavesAny s may = ⊤

-- The specification of a store without runs: the four relations and two facts of `StoreSpec`.
abbrev pub no_store : keeping.Ghosts (Unit {0})
no_store = record { answers = AllowsAnyCall; stands = HasNoRuns; sound = IsNeverSound; leaves = LeavesAny; numbered = λ s runs h. h.1; ordered = λ s runs h sound. h.2 }
