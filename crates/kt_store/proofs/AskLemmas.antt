-- The state of a connection after a query, and the tables that prepared statements show.
use Rattle.kt_store.proofs.Common.{RunsQuery, ReadsSchemaNumber, CommitsNothing, Database, Ghosts, HasCleanDisk, HasTables, Held, IsSettledWithRuns, IsTrue, IsUnchanged, IsPreparable, List, OnlyReadsRuns, QueryMayCommit, IsUnchangedOrRolledBack, Row, Run, StoresSchemaNumber, Shown, ShowsRows, StandsFor, State, Survives, Trees, ap, arith, never_commits, schema_2, state, subst, survives_then, survives_weaker, sym, unchanged_then, understood, ℕ, ℤ, ◌∙◌}
use Rattle.sqlite.specs.Given.{IsPlain}
use Rattle.sqlite.specs.Clock.{timed}
use Rattle.kt_store.proofs.StepLemmas.{same_store}

shown_same : (sql : List ℕ) (params : Row) (old new : State) (rows : List Row) → IsPlain (understood old.now.schema sql) → Shown sql params old new rows → IsUnchanged old new
unfolding Shown
shown_same sql params old new rows plain h =
    let none = (subst IsPlain h.1.is plain).0 in (subst (ShowsRows old new sql h.0 (timed params h.0.formats h.1.now) rows) none h.2).3

-- a query of a connection whose tables are not known to represent runs
module _ {S : Type 0} (g : Ghosts S) (old new : Held S) (survives : HasCleanDisk (state g new) → HasCleanDisk (state g old))
    (sql : List ℕ) (plain : HasCleanDisk (state g old) → IsTrue (state g old).is_open → IsPlain (understood (state g old).now.schema sql)) (params : Row) where
  mid_plain : HasCleanDisk (state g new) → (mid : Held S) → IsUnchanged (state g old) (state g mid) → IsPlain (understood (state g mid).now.schema sql)
  mid_plain clean mid same = subst (λ s. IsPlain (understood s sql)) (sym (ap (λ (db : Database). db.schema) same.0.now_is)) (plain (survives clean) same.0.was_open)

  pub asked_unchanged : (rows : List Row) → HasCleanDisk (state g new) → RunsQuery g sql params old new rows → IsUnchanged (state g old) (state g new)
  asked_unchanged rows clean it =
      unchanged_then (state g old) (state g it.mid) (state g new) it.same (shown_same sql params (state g it.mid) (state g new) rows (mid_plain clean it.mid it.same) it.shown)

  shows_nothing : HasCleanDisk (state g new) → (trees : Trees) → ¬ QueryMayCommit g sql params old trees
  shows_nothing clean trees it = never_commits sql params (state g it.0) trees (mid_plain clean it.0 it.1) it.2

  pub asked_leaves : Survives (state g old) (state g new) (QueryMayCommit g sql params old) → Survives (state g old) (state g new) (λ _. ⊥)
  asked_leaves h = survives_weaker (state g old) (state g new) (QueryMayCommit g sql params old) (λ _. ⊥) shows_nothing h

-- a query of a connection whose tables represent runs
module _ {S : Type 0} (g : Ghosts S) (old new : Held S) (runs : List Run) (has : StandsFor (state g old) runs) (survives : HasCleanDisk (state g new) → HasCleanDisk (state g old))
    (sql : List ℕ) (plain : IsPlain (understood schema_2 sql)) (params : Row) where
  stored_plain : HasCleanDisk (state g old) → IsTrue (state g old).is_open → IsPlain (understood (state g old).now.schema sql)
  stored_plain clean opened = subst (λ s. IsPlain (understood s sql)) (sym (has clean opened).tables.schema) plain

  pub asked_mid : (rows : List Row) → HasCleanDisk (state g new) → (it : RunsQuery g sql params old new rows) → IsSettledWithRuns (state g it.mid) runs
  asked_mid rows clean it = same_store (state g old) (state g it.mid) runs (has (survives clean) it.same.0.was_open) it.same

  pub asked_stands : (rows : List Row) → (HasCleanDisk (state g new) → RunsQuery g sql params old new rows) → StandsFor (state g new) runs
  asked_stands rows asked clean opened =
      same_store (state g old) (state g new) runs (has (survives clean) (asked clean).same.0.was_open) (asked_unchanged g old new survives sql stored_plain params rows clean (asked clean))

  pub asked_survives : Survives (state g old) (state g new) (QueryMayCommit g sql params old) → Survives (state g old) (state g new) (λ _. ⊥)
  asked_survives h = asked_leaves g old new survives sql stored_plain params h

-- two calls in sequence that only read are together a call that only reads
pub looked-then : {S : Type 0} {g : Ghosts S} {old mid new : Held S} → OnlyReadsRuns g old mid → OnlyReadsRuns g mid new → OnlyReadsRuns g old new
looked-then {S} {g} {old} {mid} {new} a b = record {
  stands = λ runs has. b.stands runs (a.stands runs has);
  crash = λ runs has. survives_then (state g old) (state g mid) (state g new) (λ _. ⊥) (λ _. ⊥) (λ _. ⊥) (λ _ db none. none) (λ _ db none. none) (a.crash runs has) (b.crash runs (a.stands runs has));
}

-- if the disk has returned no wrong data after a call that only reads, it had returned none before
-- the call
pub was_clean : {S : Type 0} {g : Ghosts S} {old new : Held S} → OnlyReadsRuns g old new → (runs : List Run) → StandsFor (state g old) runs → HasCleanDisk (state g new) → HasCleanDisk (state g old)
was_clean looked runs has clean = omega (arith, clean, (looked.crash runs has).clean)

-- ---- the tables that prepared statements show

-- a statement that SQLite can prepare after an unchanged state could be prepared before
pub understood_before : (old mid : State) (sql : List ℕ) → IsUnchanged old mid → IsPreparable mid sql → IsPreparable old sql
understood_before old mid sql same it = (it.0, ap (λ (db : Database). understood db.schema sql) (sym same.0.now_is) ∙ it.1)

pub tables_before : (old mid : State) (n : ℤ) → IsUnchanged old mid → HasTables n mid → HasTables n old
tables_before old mid n same it = record {
  runs = understood_before old mid _ same it.runs;
  entries = understood_before old mid _ same it.entries;
  pairs = λ two. understood_before old mid _ same (it.pairs two);
}

-- two calls in sequence that commit nothing are together a call that commits nothing
pub nothing_then : (a b c : State) → Survives a b (λ (db : Trees). ⊥) → Survives b c (λ (db : Trees). ⊥) → Survives a c (λ (db : Trees). ⊥)
nothing_then a b c one two = survives_then a b c (λ _. ⊥) (λ _. ⊥) (λ _. ⊥) (λ _ db none. none) (λ _ db none. none) one two

-- a call that reads the schema number, followed by a call that commits nothing, is together a call
-- that reads the schema number
pub asks_then : {S : Type 0} (g : Ghosts S) (a b c : Held S) → ReadsSchemaNumber g a b → CommitsNothing g b c
    → ((n : ℤ) → StoresSchemaNumber n (state g a) → HasCleanDisk (state g c) → IsUnchangedOrRolledBack (state g a) (state g c)) → ReadsSchemaNumber g a c
asks_then g a b c first survives rests = record {
  earlier = λ k. first.earlier (omega (arith, k, survives.clean));
  rests = rests;
  crash = λ n says. nothing_then (state g a) (state g b) (state g c) (first.crash n says) survives;
}
