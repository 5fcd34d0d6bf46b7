-- The effect of a statement that is its own commit, from its effect on the tables.
use Rattle.kt_store.proofs.Common.{Command, Commit, CommitsBy, Database, Does, Enforced, Executes, Ghosts, HasCleanDisk, Held, IsDatabase, IsNewestNamed, IsPlain, IsSettledWithRuns, IsTrue, IsSchema2Of, List, StatementMayCommit, Mode, None, Ok, Option, Program, Release, Row, Run, Runs, StandsFor, State, IsSchema2Database, Tally, RunsStatement, Trees, Update, Writes, ap, begins_at, command_of, cond, inl, inr, mode_of, names_in, refl, runs_as, schema_2, state, statement_of, understood, unwrap_or, ℕ, ⊤, ◌∙◌, ◌≡◌, ◌⊎◌}
use Rattle.kt_store.proofs.StepLemmas.{commits_as, same_store}

abbrev pub Ends : Command → State → Type 0
Ends command old = (command ≡ Commit) ⊎ ((name : List ℕ) × (place : ℕ) × (command ≡ Release name) × IsNewestNamed (names_in old) name place × IsTrue (begins_at old place))

module _ (sql : List ℕ) (params : Row) (command : Command) (is : command_of (understood schema_2 sql) ≡ command) (plain : IsPlain (understood schema_2 sql))
    (writes : (old new : State) (text : List ℕ) (count : ℕ) → Runs old new None command text params count → Writes old new None command text params count) (no_end : (old : State) → Ends command old → ⊥)
    (runs more : List Run) (Says : Tally → Type 0)
    (step : (limit : Option ℕ) (mode : Mode) (db after : Database) (text : List ℕ) (tally : Tally) → mode.keys ≡ Enforced → IsSchema2Database db runs → Does limit mode params db text None command (Ok (tally, after)) → IsSchema2Database after more × Says tally) where
  -- `Wrote old new`: the tables of `new` represent the runs `more`, and the last rowid of `new` is
  -- that of the tally, or that of `old` without one
  abbrev pub Wrote : State → State → Type 0
  Wrote old new = IsSettledWithRuns new more × IsTrue new.is_open × IsDatabase new.now × (tally : Tally) × Says tally × (new.last_rowid ≡ unwrap_or tally.last old.last_rowid)

  wrote : (old new : State) (count : ℕ) → IsSettledWithRuns old runs → Executes sql params old new (Ok count) → Wrote old new
  wrote old new count has h =
      let text = statement_of sql (understood schema_2 sql) in
      let w : Writes old new None command text params count = writes old new text count (runs_as sql params old new schema_2 has.tables.schema command is plain count h) in
      let did = step old.step_limit (mode_of old) old.now new.now text w.tally refl has.tables w.changed in (
        record {
          autocommit = w.shown.mode ∙ has.autocommit;
          settled = w.shown.committed_is ∙ ap (λ b. cond b old.committed new.now) has.autocommit;
          tables = did.0;
        },
        w.shown.is_open,
        w.sound,
        w.tally,
        did.1,
        w.last_rowid,
      )

  commits : (old : State) (trees : Trees) → IsSettledWithRuns old runs → CommitsBy sql params old trees → IsSchema2Of more trees
  commits old trees has h = elim (commits_as sql params old schema_2 has.tables.schema command is plain trees h) [
    | inl ends ↦ absurd (no_end old ends.0)
    | inr it ↦ (it.2, it.4, it.5, (step old.step_limit (mode_of old) old.now it.2 (statement_of sql (understood schema_2 sql)) it.1 refl has.tables it.3).0)
  ]

  module _ {S : Type 0} (g : Ghosts S) (old new : Held S) (has : StandsFor (state g old) runs) (earlier : HasCleanDisk (state g new) → HasCleanDisk (state g old)) where
    pub executed_by : HasCleanDisk (state g new) → (it : RunsStatement g sql params old new) → Wrote (state g it.mid) (state g new)
    executed_by clean it = wrote (state g it.mid) (state g new) it.count (same_store (state g old) (state g it.mid) runs (has (earlier clean) it.same.0.was_open) it.same) it.ran

    pub crash_by : HasCleanDisk (state g new) → (trees : Trees) → StatementMayCommit g sql params old trees → IsSchema2Of more trees
    crash_by clean trees it = commits (state g it.0) trees (same_store (state g old) (state g it.0) runs (has (earlier clean) it.1.0.was_open) it.1) it.2

no_end_update : (at : ℕ) (q : Program) (old : State) → Ends (Update at q) old → ⊥
no_end_update at q old (inl e) = cc
no_end_update at q old (inr it) = let e = it.2 in cc

module _ (sql : List ℕ) (params : Row) (at : ℕ) (q : Program) (is : command_of (understood schema_2 sql) ≡ Update at q) (plain : IsPlain (understood schema_2 sql)) (runs more : List Run)
    (step : (limit : Option ℕ) (mode : Mode) (db after : Database) (text : List ℕ) (tally : Tally) → mode.keys ≡ Enforced → IsSchema2Database db runs → Does limit mode params db text None (Update at q) (Ok (tally, after)) → IsSchema2Database after more)
    {S : Type 0} (g : Ghosts S) (old new : Held S) (has : StandsFor (state g old) runs) (earlier : HasCleanDisk (state g new) → HasCleanDisk (state g old)) where
  pub executed_update : HasCleanDisk (state g new) → RunsStatement g sql params old new → IsSettledWithRuns (state g new) more × IsTrue (state g new).is_open × IsDatabase (state g new).now
  executed_update clean it =
      let done = executed_by sql params (Update at q) is plain (λ _ _ _ _ ran. ran) (no_end_update at q) runs more (λ _. ⊤) (λ limit mode db after text tally enforced has does. (step limit mode db after text tally enforced has does, tt)) g old new has earlier clean it in
      (done.0, done.1, done.2)

  pub crash_update : HasCleanDisk (state g new) → (trees : Trees) → StatementMayCommit g sql params old trees → IsSchema2Of more trees
  crash_update = crash_by sql params (Update at q) is plain (λ _ _ _ _ ran. ran) (no_end_update at q) runs more (λ _. ⊤) (λ limit mode db after text tally enforced has does. (step limit mode db after text tally enforced has does, tt)) g old new has earlier
