-- The effect of writing rows into the trees of a store by the rules of its schema.
use Rattle.std.specs.Prelude.{◌≡◌, ◌⊎◌, ℕ, pos, false, List, [], ◌∷◌, IsTrue, Some, slice_get, Result, Ok, Err, IfErr, IfOk, OnErr, OnOk, is_err, ℤ, map}
use Rattle.sqlite_schema.specs.declared.schema.Schema.{Schema}
use Rattle.sqlite_schema.specs.declared.schema.Table.{Table}
use Rattle.sqlite_schema.specs.declared.schema.Keys.TheVariants.{Enforced}
use Rattle.sqlite_catalog.specs.Listing.{IsSound}
use Rattle.sqlite_rules.specs.Action.{Writes}
use Rattle.sqlite_rules.specs.Edit.{edit_of}
use Rattle.sqlite_rules.specs.declared.error.Rowids.{Rowids}
use Rattle.sqlite_rules.specs.declared.error.Rowids.TheVariants.{Chosen}
use Rattle.kt_store.specs.Ask.{IsDatabaseFault}
use Rattle.kt_store.specs.Files.{StaysNumbered}
use Rattle.kt_dbfile.specs.Inner.Cursors.{KeepsLastCommit}
use Rattle.kt_store.specs.Inner.Runs.{HasEncodableTexts}
use Rattle.kt_store.specs.Runs.{IsSchema2Of, entry_row, pair_rows}
use Rattle.kt_dbfile.specs.Inner.Known.{HasRuns}
use Rattle.kt_store.specs.Serving.{Agrees, runs_after}
use Rattle.kt_store.specs.StoreCalls.{StoreCall}
use Rattle.kt_store.specs.Types.{Entry, Ghosts, Int, IsClean, Null, Row, Run, Trees, View}
use Rattle.kt_store.specs.declared.store_fault.StoreFault.{StoreFault}

-- `ObeysSchema v schema`: in the state `v` of a store, no failed call has broken the transaction,
-- and the trees list `schema` and obey it.
pub record ObeysSchema (v : View) (schema : Schema) : Type 0 where
  pub unbroken : v.is_broken ≡ false
  pub sound : IsSound schema v.trees

-- `IsSettledStore v schema`: in the state `v`, a store shows the trees of its last commit. This is
-- not stated if the disk has returned wrong data, or if a failed call has broken the transaction.
-- If the store is open, the trees of the last commit list `schema` and obey it.
pub record IsSettledStore (v : View) (schema : Schema) : Type 0 where
  pub settled : IsClean v → v.is_broken ≡ false → v.trees ≡ v.committed
  pub sound : IsTrue v.is_open → IsSound schema v.committed

module _ (schema : Schema) where
  -- `PutsRows schema table_index removed_rowids rowids first_column sources old new`: an edit
  -- changed the trees from `old` to `new`. It edited the table at the index `table_index` of
  -- `schema`: it removed the rows with the rowids `removed_rowids`, and added a row for each of
  -- `sources`. The columns of a source before the index `first_column` are skipped. `rowids`
  -- decides whether an added row without a rowid gets one. Foreign keys are enforced. Nothing is
  -- stated if `schema` has no such table.
  abbrev pub PutsRows : ℕ → List ℤ → Rowids → ℕ → List Row → Trees → Trees → Type 0
  PutsRows table_index removed_rowids rowids first_column sources old new =
      (table : Table) → slice_get schema.tables table_index ≡ Some table → Writes schema Enforced old (edit_of old table removed_rowids rowids first_column sources) (Ok new)

-- `row_without_rowid row`: the row with NULL as its first value, and then the values `row`. A rowid
-- replaces the NULL when the row is written.
abbrev pub row_without_rowid : Row → Row
row_without_rowid row = Null ∷ row

-- `new_run_row total started`: the row of a new, unfinished run for the table `runs`, with NULL in
-- place of the rowid. The run has `total` selected cases, and began at the timestamp `started`.
abbrev pub new_run_row : ℕ → ℕ → Row
new_run_row total started = Null ∷ Null ∷ Int (pos started) ∷ Int (pos total) ∷ Int (pos 0) ∷ []

-- `WritesEntryRows schema run e old new`: `old` and `new` are the trees before and after the entry
-- `e` of run `run` is written. The row of the entry is added to the table `entries` of `schema`,
-- and then the rows of the entry's properties to the table `props`. All texts are representable in
-- UTF-8.
abbrev pub WritesEntryRows : Schema → ℕ → Entry → Trees → Trees → Type 0
WritesEntryRows schema run' e old new =
    HasEncodableTexts e × ((mid : Trees) × PutsRows schema 2 [] Chosen 0 (row_without_rowid (entry_row run' e) ∷ []) old mid
    × PutsRows schema 3 [] Chosen 0 (map row_without_rowid (pair_rows run' e)) mid new)

module _ {S : Type 0} (g : Ghosts S) (schema : Schema) where
  -- `WritesRows g schema call old new result`: a call of the store `old` wrote rows or failed,
  -- committed nothing, and left the store `new`. `call result` is this call with its result
  -- `result`. If the trees of `old` represent runs, the result is correct for these runs
  -- (`Agrees`). On success, the trees of `new` then represent the runs after the call, and they
  -- obey `schema`. The last commit is unchanged, and a crash of `new` leaves only what a crash of
  -- `old` may leave. Except for the crash, nothing is stated if the disk has returned wrong data.
  -- `g` is the specification of the store.
  pub record WritesRows {T : Type 0} (call : Result T StoreFault → StoreCall) (old new : S) (result : Result T StoreFault) : Type 0 where
    pub clean : IsClean (g.view new) → IsClean (g.view old)
    pub held : IsClean (g.view new) → KeepsLastCommit (g.view old) (g.view new)
    pub outcomes : (db : Trees) → g.recovers new db → g.recovers old db
    pub obeys : IsClean (g.view new) → OnOk result (ObeysSchema (g.view new) schema)
    pub agrees : (runs : List Run) → HasRuns (g.view old) runs → IsClean (g.view new) → Agrees runs (call result)
    pub rows : (runs : List Run) → HasRuns (g.view old) runs → IsClean (g.view new) → OnOk result (IsSchema2Of (runs_after (call result) runs) (g.view new).trees)

module _ {S : Type 0} (g : Ghosts S) where
  -- `EndsTransaction g old new written result`: a call ended the transaction of the store `old`,
  -- and left the store `new`. `written` is the result of writing the rows. If it is a success, the
  -- rows are committed. If it is an error, or if the commit fails, the transaction is rolled back.
  -- `result` is the result of writing and committing. A crash of `new` leaves trees that a crash of
  -- `old` may leave or, if `written` is a success, the trees of `old`. Except for the crash, the
  -- effect on the trees is not stated if the disk has returned wrong data. `g` is the specification
  -- of the store.
  pub record EndsTransaction {T : Type 0} (old new : S) (written result : Result T StoreFault) : Type 0 where
    pub numbered : StaysNumbered (g.view old) (g.view new)
    pub value : IfOk result (λ value. written ≡ Ok value)
    pub fault : IfErr result (λ e. (written ≡ Err e) ⊎ IsDatabaseFault e)
    pub clean : IsClean (g.view new) → IsClean (g.view old)
    pub settled : IsClean (g.view new) → (g.view new).is_broken ≡ false → (g.view new).trees ≡ (g.view new).committed
    pub done : IsClean (g.view new) → OnOk result (((g.view new).is_broken ≡ false) × ((g.view new).committed ≡ (g.view old).trees))
    pub kept : IsClean (g.view new) → OnErr result (KeepsLastCommit (g.view old) (g.view new))
    pub crash : (db : Trees) → g.recovers new db → ((is_err written ≡ false) × (db ≡ (g.view old).trees)) ⊎ g.recovers old db
