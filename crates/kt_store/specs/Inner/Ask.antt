-- The result and the effect of a statement that is prepared and run.
use Rattle.std.specs.Prelude.{◌≡◌, ◌<◌, ◌≤◌, ℕ, List, length, Result, Ok, Err}
use Rattle.sqlite_resolve.specs.declared.compiled.Compiled.{Compiled}
use Rattle.sqlite_resolve.specs.declared.error.CompileError.{CompileError}
use Rattle.sqlite.specs.Command.{Command}
use Rattle.sqlite.specs.Command.TheVariants.{Select}
use Rattle.kt_store.specs.Stands.{IsSettledWithRuns}
use Rattle.kt_store.specs.Types.{AllByRecursion, CommitsBy, CommitsShowing, Executes, Ghosts, Held, IsUnchanged, Row, Run, Shown, Trees, state}

-- `width_of command`: the number of columns that `command` returns if it is a query, else 0
abbrev pub width_of : Command → ℕ
width_of (Select query names) = length names
width_of _ = 0

-- `HasColumns width compiled`: `compiled`, the result of compiling a statement, is a query that
-- returns `width` columns, and `width` is at least 1
abbrev pub HasColumns : ℕ → Result Compiled CompileError → Type 0
HasColumns width (Ok c) = (0 < width) × (width_of c.command ≡ width)
HasColumns width (Err e) = ⊥

-- `AreWide width rows`: each of `rows` has at least `width` columns
abbrev pub AreWide : ℕ → List Row → Type 0
AreWide width rows = AllByRecursion (λ (row : Row). width ≤ length row) rows

-- `QueriesRuns g runs sql params new rows`: the query `sql` with the parameter values `params`
-- returned `rows` from tables with exactly `runs`. `new` is the connection after the query. `g` is
-- the specification of connections.
pub record QueriesRuns {S : Type 0} (g : Ghosts S) (runs : List Run) (sql : List ℕ) (params : Row) (new : Held S) (rows : List Row) : Type 0 where
  pub mid : Held S
  pub stored : IsSettledWithRuns (state g mid) runs
  pub shown : Shown sql params (state g mid) (state g new) rows

module _ {S : Type 0} (g : Ghosts S) (sql : List ℕ) (params : Row) (old : Held S) where
  -- `RunsQuery g sql params old new rows`: the query `sql` was prepared on connection `old` and
  -- executed with the parameter values `params`. It returned `rows`, and `new` is the connection
  -- after it. `g` is the specification of connections.
  pub record RunsQuery (new : Held S) (rows : List Row) : Type 0 where
    pub mid : Held S
    pub same : IsUnchanged (state g old) (state g mid)
    pub shown : Shown sql params (state g mid) (state g new) rows

  -- `RunsStatement g sql params old new`: the statement `sql` was prepared on connection `old` and
  -- executed with the parameter values `params`. `new` is the connection after it. `g` is the
  -- specification of connections.
  pub record RunsStatement (new : Held S) : Type 0 where
    pub mid : Held S
    pub same : IsUnchanged (state g old) (state g mid)
    pub count : ℕ
    pub ran : Executes sql params (state g mid) (state g new) (Ok count)

  -- `QueryMayCommit g sql params old db`: the statement `sql` is prepared on connection `old`. Its
  -- execution as a query with the parameter values `params` may commit the B-trees `db`. Only a
  -- write with RETURNING commits. `g` is the specification of connections.
  abbrev pub QueryMayCommit : Trees → Type 0
  QueryMayCommit db = (mid : Held S) × IsUnchanged (state g old) (state g mid) × CommitsShowing sql params (state g mid) db

  -- `StatementMayCommit g sql params old db`: the statement `sql` is prepared on connection `old`.
  -- Its execution with the parameter values `params` may commit the B-trees `db`. `g` is the
  -- specification of connections.
  abbrev pub StatementMayCommit : Trees → Type 0
  StatementMayCommit db = (mid : Held S) × IsUnchanged (state g old) (state g mid) × CommitsBy sql params (state g mid) db
