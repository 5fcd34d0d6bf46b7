-- The state of a connection after a statement, if its tables represented runs before.
use Rattle.kt_store.proofs.Common.{Command, CommitsBy, Compiled, Database, Err, Error, FailsToQuery, FailsToShow, Ghosts, HasCleanDisk, Held, IsSettledWhileOpen, IsDatabase, IsLive, IsNotRun, IsPlain, IsRolledBack, IsSettled, IsSettledWithRuns, IsTrue, IsUnchanged, IsUndone, IsSchema2Of, IsAnySchemaOf, IsSchema1Of, Leaves, List, None, Option, IsUnchangedOrRolledBack, Row, Run, RunsCommand, Schema, Some, State, Survives, IsSchema2Database, Trees, ap, append-nil, arith, command_of, inl, inr, state, statement_of, subst, subst₂, survives_then, sym, unchanged_then, understood, ℕ, ◌∙◌, ◌≡◌}
use Rattle.sqlite_schema.specs.declared.command.Returning.{Returning}
use Rattle.sqlite.specs.State.{MayCommit}

-- a failed statement leaves the connection unchanged or rolled back
pub not_run : (old new : State) (sql : List ℕ) (params : Row) (e : Error) → IsNotRun old new sql params e → IsUnchangedOrRolledBack old new
unfolding IsNotRun
not_run old new sql params e (inl h) = inl h.1
not_run old new sql params e (inr h) = inr h.3

command_refused : (old new : State) (sql : List ℕ) (c : Compiled) (params : Row) (e : Error) → RunsCommand old new sql c params (Err e) → IsUnchangedOrRolledBack old new
command_refused old new sql c params e (inl h) = inl h.1
command_refused old new sql c params e (inr h) = inr h.3

show_refused : (old new : State) (sql : List ℕ) (c : Compiled) (params : Row) (e : Error) (what : Option Returning) → FailsToShow old new sql c params e what → IsUnchangedOrRolledBack old new
show_refused old new sql c params e None h = inl h.3
show_refused old new sql c params e (Some what) h = command_refused old new sql c params e h

pub query_refused : (old new : State) (sql : List ℕ) (params : Row) (e : Error) → FailsToQuery sql params old new e → IsUnchangedOrRolledBack old new
unfolding FailsToQuery
query_refused old new sql params e (inl h) = not_run old new sql params e h
query_refused old new sql params e (inr h) = show_refused old new sql h.0 _ e h.0.returning h.2

rolled_back : (old new : State) → IsRolledBack old new → IsUndone old new
rolled_back old new undone = record { was_open = undone.was_open; now = λ opened. (undone.undone opened).0; committed = λ opened. (undone.undone opened).1; autocommit = undone.autocommit }

module _ (P : Database → Type 0) (old new : State) where
  -- an unchanged connection is settled as before
  pub same_settled : IsSettled P old → IsUnchanged old new → IsSettled P new
  same_settled has same = record {
    autocommit = same.0.mode ∙ has.autocommit;
    settled = same.0.committed_is ∙ has.settled ∙ sym same.0.now_is;
    tables = subst P (sym same.0.now_is) has.tables;
  }

  pub undone_settled : IsSettled P old → IsUndone old new → IsTrue new.is_open → IsSettled P new
  undone_settled has undone opened = record {
    autocommit = undone.autocommit;
    settled = undone.committed opened ∙ sym (undone.now opened);
    tables = subst P (sym (undone.now opened ∙ has.settled)) has.tables;
  }

  -- a connection that a failed statement left unchanged or rolled back is settled as before
  pub rests_hold : IsSettledWhileOpen P old → (HasCleanDisk new → HasCleanDisk old) → (HasCleanDisk new → IsUnchangedOrRolledBack old new) → IsSettledWhileOpen P new
  rests_hold has earlier left clean opened = elim (left clean) [
    | inl same ↦ same_settled (has (earlier clean) same.0.was_open) same
    | inr undone ↦ undone_settled (has (earlier clean) (undone.was_open opened)) (rolled_back old new undone) opened
  ]

pub same_store : (old new : State) (runs : List Run) → IsSettledWithRuns old runs → IsUnchanged old new → IsSettledWithRuns new runs
same_store old new runs has same = same_settled (λ db. IsSchema2Database db runs) old new has same

module _ (sql : List ℕ) (params : Row) (old : State) (schema : Schema) (has : old.now.schema ≡ schema) (command : Command) (is : command_of (understood schema sql) ≡ command)
    (plain : IsPlain (understood schema sql)) where
  pub commits_as : (db : Trees) → CommitsBy sql params old db → MayCommit old None command (statement_of sql (understood schema sql)) params db
  unfolding CommitsBy
  commits_as db h =
      let known = sym h.1.is ∙ ap (λ s. understood s sql) has in
      let bare = subst IsPlain (sym known) plain in
      subst₂ (λ k t. MayCommit old None k t params db) (ap command_of known ∙ is) (ap (statement_of sql) known) (rw (bare.0, bare.1, append-nil params) at h.2)

pub rests_then : (a b c : State) → IsUnchanged a b → IsUnchangedOrRolledBack b c → IsUnchangedOrRolledBack a c
rests_then a b c same (inl more) = inl (unchanged_then a b c same more)
rests_then a b c same (inr undone) = inr (record {
  was_open = λ opened. same.0.was_open;
  undone = λ opened. ((undone.undone opened).0 ∙ same.0.committed_is, (undone.undone opened).1 ∙ same.0.committed_is);
  autocommit = undone.autocommit;
  unmarked = undone.unmarked;
  counts = record { changes = undone.counts.changes ∙ same.1.changes; last_rowid = undone.counts.last_rowid ∙ same.1.last_rowid };
})

-- a statement that is prepared and then executed commits only what its execution commits
pub prepare_then : (old mid new : State) (P Q : Trees → Type 0) → Survives old mid (λ _. ⊥) → Survives mid new Q → (HasCleanDisk mid → (db : Trees) → Q db → P db) → Survives old new P
prepare_then old mid new P Q first second is = survives_then old mid new (λ _. ⊥) Q P (λ _ db none. absurd none) (λ clean db may. is (omega (arith, clean, second.clean)) db may) first second

-- calls that commit nothing add nothing to what a crash may leave
pub outlives : (old new : State) (P : Trees → Type 0) → Survives old new (λ _. ⊥) → Leaves old P → Leaves new P
outlives old new P it left clean trees may = elim (it.crash clean trees may) [
  | inl earlier ↦ left (omega (arith, clean, it.clean)) trees earlier
  | inr none ↦ absurd none
]

-- during a migration, a crash leaves the runs in schema 1 or 2
pub either_left : (old new : State) (runs : List Run) → Survives old new (IsSchema2Of runs) → Leaves old (IsSchema1Of runs) → Leaves new (IsAnySchemaOf runs)
either_left old new runs it left clean trees may = elim (it.crash clean trees may) [
  | inl earlier ↦ inl (left (omega (arith, clean, it.clean)) trees earlier)
  | inr made ↦ inr made
]

-- a crash of an open connection leaves its last commit
module _ {S : Type 0} (g : Ghosts S) (s : Held S) (law : (db : Trees) → IsTrue (state g s).is_open → (state g s).may_leave db → db ≡ (state g s).committed.trees) where
  pub leaves_held : (P : Database → Type 0) → IsLive (state g s) → IsSettledWhileOpen P (state g s) → IsTrue (state g s).is_open → Leaves (state g s) (λ trees. (db : Database) × IsDatabase db × (trees ≡ db.trees) × P db)
  leaves_held P live has opened clean trees may = ((state g s).now, (live opened).0, law trees opened may ∙ ap (λ (d : Database). d.trees) (has clean opened).settled, (has clean opened).tables)
