-- The statements of calls that execute several statements in one commit.
use Rattle.std.specs.Prelude.{◌≡◌, ◌⊎◌, ℕ, true, false, List, [], ◌∷◌, Ok, IsTrue, suc, codes}
use Rattle.kt_store.specs.Runs.{IsEncodable, entry_row, pair_row}
use Rattle.kt_store.specs.Inner.Kept.{CommitsNothing}
use Rattle.sqlite.specs.Given.{IsPlain}
use Rattle.kt_store.specs.Tables.{schema_2, insert_entry_sql, create_meta_sql, create_runs_sql, create_entries_sql, create_props_sql, insert_schema_sql, update_schema_sql}
use Rattle.kt_store.specs.Types.{AllByRecursion, Entry, ExecutesInside, Ghosts, HasCleanDisk, Held, KeepsCommit, Row, Shows, State, Trees, Variable, state, understood}

-- a statement: its SQL text, the values of its parameters, and the texts among these values, in
-- characters
abbrev pub Statement : Type 0
Statement = List ℕ × Row × List (List ℕ)

-- `IsSchema2Statement sql`: the statement `sql` creates one of the four tables of schema 2, or
-- SQLite can prepare it over the tables of schema 2
abbrev pub IsSchema2Statement : List ℕ → Type 0
IsSchema2Statement sql = (sql ≡ create_meta_sql) ⊎ (sql ≡ create_runs_sql) ⊎ (sql ≡ create_entries_sql) ⊎ (sql ≡ create_props_sql) ⊎ IsPlain (understood schema_2 sql)

-- the statement that inserts a property of an entry into the table `props`
abbrev pub insert_prop_sql : List ℕ
insert_prop_sql = codes "INSERT INTO props (run, position, place, name, value) VALUES (?1, ?2, ?3, ?4, ?5)"

-- `pair_statement run position place v`: the statement that inserts property `v`; `place` is the
-- index of `v` among the properties of the entry at `position` of run `run`
abbrev pub pair_statement : ℕ → ℕ → ℕ → Variable → Statement
pair_statement run position place v = (insert_prop_sql, pair_row run position place v, v.name ∷ v.value ∷ [])

-- `pair_statements run position place pairs`: the statements that insert the properties `pairs` of
-- the entry at `position` of run `run`. The indexes of the properties begin with `place`.
abbrev pub pair_statements : ℕ → ℕ → ℕ → List Variable → List Statement
pair_statements run position place [] = []
pair_statements run position place (v ∷ pairs) = pair_statement run position place v ∷ pair_statements run position (suc place) pairs

-- `entry_statements run e`: the statements that insert entry `e` and its properties into run `run`
abbrev pub entry_statements : ℕ → Entry → List Statement
entry_statements run e = (insert_entry_sql, entry_row run e, e.program ∷ e.case_name ∷ e.verdict.reason ∷ []) ∷ pair_statements run e.position 0 e.meta

-- `plain_statements texts`: the statements with the SQL texts `texts`, without parameters
abbrev pub plain_statements : List (List ℕ) → List Statement
plain_statements [] = []
plain_statements (sql ∷ others) = (sql, [], []) ∷ plain_statements others

-- the statements that create the tables of schema 2 and insert the schema number
abbrev pub creation_statements : List Statement
creation_statements = plain_statements (create_meta_sql ∷ create_runs_sql ∷ create_entries_sql ∷ create_props_sql ∷ insert_schema_sql ∷ [])

-- the statements that migrate schema 1 to schema 2
abbrev pub migration_statements : List Statement
migration_statements = plain_statements (create_props_sql ∷ update_schema_sql ∷ [])

-- `begun h`: the connection `h`, changed only in that a transaction is open
abbrev pub begun : {S : Type 0} → Held S → Held S
begun h = record h { in_transaction = true }

-- `IsUndone old new`: in state `new` of a connection no transaction is open, and everything written
-- since the last commit of state `old` is undone
pub record IsUndone (old new : State) : Type 0 where
  pub was_open : IsTrue new.is_open → IsTrue old.is_open
  pub now : IsTrue new.is_open → new.now ≡ old.committed
  pub committed : IsTrue new.is_open → new.committed ≡ old.committed
  pub autocommit : new.in_transaction ≡ false

module _ {S : Type 0} (g : Ghosts S) where
  -- `ExecutesStatement g s old new`: statement `s` was executed in the open transaction of
  -- connection `old`, and the connection is then `new`. The texts of `s` are representable in
  -- UTF-8. `g` is the specification of connections.
  abbrev pub ExecutesStatement : Statement → Held S → Held S → Type 0
  ExecutesStatement s old new = (count : ℕ) × ExecutesInside 0 s.0 s.1 (state g old) (state g new) (Ok count) × AllByRecursion IsEncodable s.2

  -- `ExecutesInOrder g statements old new`: `statements` were executed in this order in the open
  -- transaction of connection `old`, and the connection is then `new`. `g` is the specification of
  -- connections.
  abbrev pub ExecutesInOrder : List Statement → Held S → Held S → Type 0
  ExecutesInOrder [] old new = new ≡ old
  ExecutesInOrder (s ∷ others) old new = (mid : Held S) × ExecutesStatement s old mid × ExecutesInOrder others mid new

  -- `ExecutesOne g s old new`: if a transaction is open on connection `old`, statement `s` was
  -- executed in it and led to `new`, unless the disk has returned wrong data. `g` is the
  -- specification of connections.
  abbrev pub ExecutesOne : Statement → Held S → Held S → Type 0
  ExecutesOne s old new = HasCleanDisk (state g new) → IsTrue (state g old).in_transaction → ExecutesStatement s old new

  -- `ExecutesAll g statements old new`: if a transaction is open on `old`, `statements` were
  -- executed in it in order and led to `new`, unless the disk has returned wrong data. `g` is the
  -- specification of connections.
  abbrev pub ExecutesAll : List Statement → Held S → Held S → Type 0
  ExecutesAll statements old new = HasCleanDisk (state g new) → IsTrue (state g old).in_transaction → ExecutesInOrder statements old new

  -- `CommitsNothingYet g old new`: from connection `old` to `new` nothing was committed, unless the
  -- disk has returned wrong data. A crash of `new` leaves only what a crash of `old` leaves. `g` is
  -- the specification of connections.
  pub record CommitsNothingYet (old new : Held S) : Type 0 where
    pub keeps : HasCleanDisk (state g new) → KeepsCommit (state g old) (state g new)
    pub survives : CommitsNothing g old new

  module _ (statements : List Statement) (old : Held S) where
    -- `Commits g statements old new`: `statements` were executed in order in a new transaction of
    -- connection `old`. The commit of this transaction led to `new`. `g` is the specification of
    -- connections.
    abbrev pub Commits : Held S → Type 0
    Commits new = (left : Held S) × ExecutesInOrder statements (begun old) left × Shows (state g left) (state g new) (state g left).now (state g left).now false

    -- `MayCommit g statements old trees`: `trees` are the B-trees after `statements` were executed
    -- in order in a new transaction of connection `old`. `g` is the specification of connections.
    abbrev pub MayCommit : Trees → Type 0
    MayCommit trees = (left : Held S) × ExecutesInOrder statements (begun old) left × (trees ≡ (state g left).now.trees)

  -- `RollsBack g old new`: connection `new` is equal to `old`, or everything that `old` had not
  -- committed is undone in `new`. `g` is the specification of connections.
  abbrev pub RollsBack : Held S → Held S → Type 0
  RollsBack old new = (new ≡ old) ⊎ IsUndone (state g old) (state g new)
