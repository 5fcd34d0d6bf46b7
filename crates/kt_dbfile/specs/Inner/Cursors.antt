-- The rows that cursors over the trees of a store return. A view is the state of a store as
-- contracts see it. A store or its transaction is broken after a failed call, until a rollback.
use Rattle.std.specs.Prelude.{◌≡◌, ◌==◌, ◌-◌, ◌&&◌, nat_lt, if◌then◌else◌, pos, ℕ, ℤ, false, true, Bool, List, [], ◌∷◌, ◌++◌, Option, Some, None, map, drop, take, filter, length, slice_get, IsTrue, OnOk, Result}
use Rattle.std.specs.Option.{option_map}
use Rattle.std.specs.Ordering.{is_eq, is_lt}
use Rattle.sqlite_trees.specs.declared.store.Shape.TheVariants.{Table}
use Rattle.sqlite_value.specs.Keys.{plain, prefix_cmp}
use Rattle.sqlite_sql.specs.Catalog.{entry_of}
use Rattle.sqlite_value.specs.declared.value.Value.{Value}
use Rattle.kt_store.specs.Types.{AllByRecursion, Blob, Ghosts, Int, IsClean, IsIndex, IsShaped, KeepsSchema, Row, Trees, View, column, from_key, has_rowid, rowid}
use Rattle.kt_store.specs.declared.result_store.RunHead.{RunHead}

-- `is_possible_last_key last end`: `true` if `end` can be the greatest key of the index of the
-- table `entries`. `last` is the head of the last run. If this run is finished and has cases, `end`
-- must be the key of its last position. Otherwise, `end` must be below the key of the position
-- `last.total`, at which the run can't have an entry.
abbrev pub is_possible_last_key : RunHead → Row → Bool
is_possible_last_key last end =
    if last.finished && nat_lt 0 last.total then is_eq (prefix_cmp plain end (Int (pos last.number) ∷ Int (pos (last.total - 1)) ∷ []))
    else is_lt (prefix_cmp plain end (Int (pos last.number) ∷ Int (pos last.total) ∷ []))

-- `key_before run position`: the index key of the position before `position` in run `run`. For
-- position 0, it is the key of the run before `run`, or of run 0 if `run` is 0.
abbrev pub key_before : ℕ → ℕ → Row
key_before run' position = if position == 0 then Int (pos (run' - 1)) ∷ [] else Int (pos run') ∷ Int (pos (position - 1)) ∷ []

-- `has_prefix key e`: `true` if the first columns of the index entry `e` equal the columns of
-- `key`.
abbrev pub has_prefix : Row → Row → Bool
has_prefix key e = is_eq (prefix_cmp plain e key)

-- `IsUniqueRow table row`: `row` is the only row of `table` with its rowid.
abbrev pub IsUniqueRow : List Row → Row → Type 0
IsUniqueRow table row = (id : ℤ) × (rowid row ≡ Int id) × (filter (has_rowid id) table ≡ row ∷ [])

-- `IndexesRows columns key matching table index`: `matching` are the rows of `table` whose entries
-- in `index` begin with `key`. The rows have the order of `index` and lack their rowids. Their
-- entries are the first from `key` on, and no later entry begins with `key`. An entry has the
-- values of its row in the key columns, whose indexes are `columns`, and the row's rowid. No other
-- row of `table` has this rowid.
pub record IndexesRows (columns : List ℕ) (key : Row) (matching table index : List Row) : Type 0 where
  pub rows : List Row
  pub are : map (drop 1) rows ≡ matching
  pub each : AllByRecursion (IsUniqueRow table) rows
  pub rest : List Row
  pub found : from_key plain key index ≡ map (entry_of columns) rows ++ rest
  pub hits : AllByRecursion (λ e. has_prefix key e ≡ true) (map (entry_of columns) rows)
  pub past : AllByRecursion (λ e. has_prefix key e ≡ false) rest

-- `is_blob value`: `true` if `value` is a blob.
abbrev pub is_blob : Value → Bool
is_blob (Blob bytes) = true
is_blob _ = false

-- `selected_columns columns row`: the values of `row` in the columns with the indexes `columns`.
abbrev pub selected_columns : List ℕ → Row → Row
selected_columns columns row = map (column row) columns

-- `SelectsColumns columns source shown`: `source` are some rows without their rowids. `shown` has
-- the values in `columns` of these rows, in the same order.
abbrev pub SelectsColumns : List ℕ → List Row → List Row → Type 0
SelectsColumns columns source shown = (rows : List Row) × (map (drop 1) rows ≡ source) × (shown ≡ map (selected_columns columns) rows)

-- `SelectsUnderKey table index key columns trees shown`: `shown` has the values in `columns` of the
-- rows whose index entries begin with `key`. The rows have the order of the index. `table` and
-- `index` are the numbers of a table's tree and of its index's tree in `trees`. Nothing is stated
-- unless `IndexesRows` holds for these trees.
abbrev pub SelectsUnderKey : ℕ → ℕ → Row → List ℕ → Trees → List Row → Type 0
SelectsUnderKey table index key columns trees shown = (cs : List ℕ) (matching : List Row)
    → (IsShaped Table (trees table) → IsIndex plain (trees index) → IndexesRows cs key matching (trees table) (trees index)) → SelectsColumns columns matching shown

-- `FindsFirstUnderKey table index key trees found`: `found` is the first row whose index entry
-- begins with `key`, or `None` if there is no such row. `table` and `index` are the numbers of a
-- table's tree and of its index's tree in `trees`. Nothing is stated unless `IndexesRows` holds for
-- these trees.
abbrev pub FindsFirstUnderKey : ℕ → ℕ → Row → Trees → Option Row → Type 0
FindsFirstUnderKey table index key trees found = (cs : List ℕ) (matching : List Row)
    → (IsShaped Table (trees table) → IsIndex plain (trees index) → IndexesRows cs key matching (trees table) (trees index)) → option_map (drop 1) found ≡ slice_get matching 0

-- `CursorReturns key table old place row new found`: a cursor moves to the first of `old`, the
-- index entries that it has not reached yet. If `found` is `true`, this entry is `place`, which
-- begins with `key`, and `new` are the entries after it. `row` is then the only row of `table` with
-- the rowid in `place`. If `found` is `false`, `old` is empty, or its first entry doesn't begin
-- with `key`.
abbrev pub CursorReturns : Row → List Row → List Row → Row → Row → List Row → Bool → Type 0
CursorReturns key table old place row new true =
    (old ≡ place ∷ new) × (has_prefix key place ≡ true) × ((front : Row) (id : ℤ) → place ≡ front ++ Int id ∷ [] → filter (has_rowid id) table ≡ row ∷ [])
CursorReturns key table old place row new false = AllByRecursion (λ e. has_prefix key e ≡ false) (take 1 old)

-- `CountsUnderKey table index key trees n`: there are `n` rows whose index entries begin with
-- `key`. `table` and `index` are the numbers of a table's tree and of its index's tree in `trees`.
-- Nothing is stated unless `IndexesRows` holds for these trees.
abbrev pub CountsUnderKey : ℕ → ℕ → Row → Trees → ℕ → Type 0
CountsUnderKey table index key trees n = (cs : List ℕ) (matching : List Row)
    → (IsShaped Table (trees table) → IsIndex plain (trees index) → IndexesRows cs key matching (trees table) (trees index)) → n ≡ length matching

-- `IsLast rows found`: `found` is the last of `rows`, or `None` if there are no rows.
abbrev pub IsLast : List Row → Option Row → Type 0
IsLast rows None = rows ≡ []
IsLast rows (Some row) = (front : List Row) × (rows ≡ front ++ row ∷ [])

-- `OnlyMovesCursors old new`: `old` and `new` are the states of a store before and after a call
-- that changed only cursors. The transaction of `old` was not broken by a failed call.
abbrev pub OnlyMovesCursors : View → View → Type 0
OnlyMovesCursors old new = (old.is_broken ≡ false) × (new ≡ record old { cursors = new.cursors })

-- `KeepsLastCommit old new`: `old` and `new` are the states of a store before and after a call. If
-- the store is open in `new`, it is open in `old`, and both have the same last commit. The trees
-- are then numbered (`HasTrees`) in both or in neither.
abbrev pub KeepsLastCommit : View → View → Type 0
KeepsLastCommit old new = IsTrue new.is_open → IsTrue old.is_open × (new.committed ≡ old.committed) × (new.is_numbered ≡ old.is_numbered)

-- `OnlyReadsStore g old new`: `old` and `new` are a store before and after a call that only read
-- it. Unless `new` is broken by a failed call, it shows the trees of `old`. Both have the same last
-- commit. A crash of `new` leaves only trees that a crash of `old` may leave. The first two facts
-- are not stated if the disk has returned wrong data up to `new`. If it has returned none, it had
-- returned none up to `old`. `g` is the specification of the store.
pub record OnlyReadsStore {S : Type 0} (g : Ghosts S) (old new : S) : Type 0 where
  pub clean : IsClean (g.view new) → IsClean (g.view old)
  pub schema : KeepsSchema (g.view old) (g.view new)
  pub same : IsClean (g.view new) → (g.view new).is_broken ≡ false → g.view new ≡ record (g.view old) { cursors = (g.view new).cursors }
  pub held : IsClean (g.view new) → KeepsLastCommit (g.view old) (g.view new)
  pub outcomes : (db : Trees) → g.recovers new db → g.recovers old db

-- `ReadsUnbrokenStore g old new result`: `old` and `new` are a store before and after a call that
-- only read it, and returned `result`. If the call succeeded, the transaction of `old` was not
-- broken by a failed call, and only cursors moved. This is not stated if the disk has returned
-- wrong data. `g` is the specification of the store.
abbrev pub ReadsUnbrokenStore : {S T E : Type 0} → Ghosts S → S → S → Result T E → Type 0
ReadsUnbrokenStore g old new result = OnlyReadsStore g old new × (IsClean (g.view new) → OnOk result (OnlyMovesCursors (g.view old) (g.view new)))
