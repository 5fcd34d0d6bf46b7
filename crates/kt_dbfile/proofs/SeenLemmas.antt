-- The columns that are read from the rows that a cursor finds, and the calls of a store that is
-- only read.
use Rattle.kt_dbfile.proofs.Common.{Agrees, AreNumbered, CaseOutputs, Entry, Err, Ghosts, HasRuns, KeepsLastCommit, IfErr, IfOk, IsDatabaseFault, IsTrue, IsSchema2Of, List, OnlyReadsStore, NoRun, None, Ok, SurvivesCrash, Outputs, Result, Row, Run, Serves, SelectsColumns, Some, StoreCall, StoreFault, Trees, Variable, [], ap, arith, spec_over_trees, runs_after, drop, entry_at, entry_columns, entry_row, false, filter, has_rowid, selected_columns, map, map-map, map_same, outputs_of, pair_columns, pair_rows_from, pos, read_only_spec, refl, run_at, run_row, subst, sym, true, ℕ, ◌∙◌, ◌∷◌, ◌≡◌, ◌⊎◌}
use Rattle.sqlite_trees.specs.View.{View, Finds, IsClean, IsQuiet, KeepsSchema}
use Rattle.kt_store.proofs.EntryLemmas.{back}
use Rattle.kt_store.proofs.RunLemmas.{found_run, none_there, some_there}
use Rattle.kt_store.proofs.PairsLemmas.{all_columns}

-- `LeavesRowid columns`: the values of a row in `columns` don't depend on its rowid
abbrev pub LeavesRowid : List ℕ → Type 0
LeavesRowid columns = (r : Row) → selected_columns columns r ≡ selected_columns columns (back (drop 1 r))

pub seen : (columns : List ℕ) → LeavesRowid columns → (mine shown : List Row) → SelectsColumns columns mine shown → shown ≡ map (λ r. selected_columns columns (back r)) mine
seen columns leaves mine shown h =
    h.2 ∙ map_same (selected_columns columns) (λ r. selected_columns columns (back (drop 1 r))) leaves h.0 ∙ sym (map-map (λ r. selected_columns columns (back r)) (drop 1) h.0) ∙ ap (map (λ r. selected_columns columns (back r))) h.1

abbrev pub entry_places : List ℕ
entry_places = 2 ∷ 3 ∷ 4 ∷ 5 ∷ 6 ∷ 7 ∷ 8 ∷ []

abbrev pub pair_places : List ℕ
pair_places = 4 ∷ 5 ∷ []

entries_leave : LeavesRowid entry_places
entries_leave [] = refl
entries_leave (x ∷ r) = refl

pairs_leave : LeavesRowid pair_places
pairs_leave [] = refl
pairs_leave (x ∷ r) = refl

pub seen_entries : (n : ℕ) (es : List Entry) (shown : List Row) → SelectsColumns entry_places (map (entry_row n) es) shown → shown ≡ map entry_columns es
seen_entries n es shown h = seen entry_places entries_leave _ shown h ∙ map-map (λ r. selected_columns entry_places (back r)) (entry_row n) es

pub seen_pairs : (n p : ℕ) (vs : List Variable) (shown : List Row) → SelectsColumns pair_places (pair_rows_from n p 0 vs) shown → shown ≡ map pair_columns vs
seen_pairs n p vs shown h = seen pair_places pairs_leave _ shown h ∙ all_columns (λ r. selected_columns pair_places (back r)) n p (λ k v. refl) 0 vs

-- the tree of the table of runs has the rows of the runs
pub rows_of_runs : (runs : List Run) (trees : Trees) → IsSchema2Of runs trees → trees 2 ≡ map run_row runs
rows_of_runs runs trees keeps = ap (λ (t : Trees). t 2) keeps.2 ∙ keeps.3.runs_are

-- the row that is found by a run's number is the run's row, and if none is found, the run doesn't
-- exist
pub there_is : (runs : List Run) (n : ℕ) (table : List Row) (row : Row) → AreNumbered 1 runs → table ≡ map run_row runs → Finds table (pos n) row true → (r : Run) × (run_at runs n ≡ Some r) × (row ≡ run_row r)
there_is runs n table row numbered are found =
    some_there run_row (run_at runs n) (row ∷ []) row (sym (sym (found_run n runs numbered) ∙ ap (filter (has_rowid (pos n))) (sym are) ∙ found)) refl

pub there_is_none : (runs : List Run) (n : ℕ) (table : List Row) (row : Row) → AreNumbered 1 runs → table ≡ map run_row runs → Finds table (pos n) row false → run_at runs n ≡ None
there_is_none runs n table row numbered are found = none_there run_row (run_at runs n) [] (sym (sym (found_run n runs numbered) ∙ ap (filter (has_rowid (pos n))) (sym are) ∙ found)) refl

-- a store that was only read still has its runs
pub still_has : {S : Type 0} (g : Ghosts S) (old new : S) → OnlyReadsStore g old new → (runs : List Run) → HasRuns (g.view old) runs → HasRuns (g.view new) runs
still_has g old new looks runs has clean sound =
    let same = looks.same clean sound in
    subst (IsSchema2Of runs) (ap (λ (v : View). v.trees) (sym same)) (has (looks.clean clean) (ap (λ (v : View). v.is_broken) (sym same) ∙ sound))

-- ---- the calls of a store of runs that is only read

pub outputs_agree : (r : Result CaseOutputs StoreFault) (runs : List Run) (number position : ℕ) → IfOk r (λ o. (e : Entry) × (entry_at (run_at runs number) position ≡ Some e) × (o ≡ outputs_of e))
    → IfErr r (λ e. IsDatabaseFault e ⊎ ((e ≡ NoRun) × (entry_at (run_at runs number) position ≡ None))) → Agrees runs (Outputs number position r)
outputs_agree (Ok o) runs number position ok err = ok
outputs_agree (Err fault) runs number position ok err = err

-- if each of two calls keeps the last commit, both together keep the last commit
pub held_then : (a b c : View) → KeepsLastCommit a b → KeepsLastCommit b c → KeepsLastCommit a c
held_then a b c first second opened = let late = second opened in let early = first late.0 in (early.0, late.1 ∙ early.1, late.2 ∙ early.2)

module _ {S : Type 0} (g : Ghosts S) where
  schema_then : (u v w : View) → KeepsSchema u v → KeepsSchema v w → KeepsSchema u w
  schema_then u v w first second = record {
    shape = second.shape ∙ first.shape;
    reals = second.reals ∙ first.reals;
    committed_shape = second.committed_shape ∙ first.committed_shape;
    committed_reals = second.committed_reals ∙ first.committed_reals;
    numbered = second.numbered ∙ first.numbered;
  }

  pub looks_then : (old mid new : S) → OnlyReadsStore g old mid → OnlyReadsStore g mid new → OnlyReadsStore g old new
  looks_then old mid new first second = record {
    clean = λ clean. first.clean (second.clean clean);
    schema = schema_then (g.view old) (g.view mid) (g.view new) first.schema second.schema;
    same = λ clean sound.
        let late = second.same clean sound in
        late ∙ ap (λ (v : View). record v { cursors = (g.view new).cursors }) (first.same (second.clean clean) (ap (λ (v : View). v.is_broken) (sym late) ∙ sound));
    held = λ clean. held_then (g.view old) (g.view mid) (g.view new) (first.held (second.clean clean)) (second.held clean);
    outcomes = λ db found. first.outcomes db (second.outcomes db found);
  }

  -- a call after which at most cursors have moved only reads the store
  pub looked : (old new : S) → IsQuiet g.view g.faults g.recovers g.is_shielded old new → KeepsSchema (g.view old) (g.view new) → (IsClean (g.view new) → g.view new ≡ record (g.view old) { cursors = (g.view new).cursors }) → OnlyReadsStore g old new
  looked old new quiet schema moves = record {
    clean = λ clean. let falls = quiet.clean in omega arith;
    schema = schema;
    same = λ clean sound. moves clean;
    held = λ clean opened. (subst IsTrue (ap (λ (v : View). v.is_open) (moves clean)) opened, ap (λ (v : View). v.committed) (moves clean), schema.numbered);
    outcomes = quiet.outcomes;
  }

  -- for a call from the store `old` to `new` that only reads: it serves a store if it still has its
  -- runs
  module _ (old new : S) (looks : OnlyReadsStore g old new) where
    pub read_serves : (Has : View → List Run → Type 0) → ((runs : List Run) → Has (g.view old) runs → Has (g.view new) runs) → (call : StoreCall) → ((runs : List Run) → runs_after call runs ≡ runs)
        → ((runs : List Run) (may : List (List Run)) → ((spec_over_trees g Has).leaves old may → (spec_over_trees g Has).leaves new may) → SurvivesCrash (spec_over_trees g Has).leaves call runs may old new)
        → ((runs : List Run) → (spec_over_trees g Has).stands old runs → IsClean (g.view new) → Agrees runs call) → Serves (spec_over_trees g Has) call old new
    read_serves Has still call same lasts why = record {
      asked = λ clean opened. let held = looks.held clean opened in (held.0, held.2);
      stands = λ runs h. subst ((spec_over_trees g Has).stands new) (sym (same runs)) (still runs h.0, h.1, λ clean. h.2 (looks.clean clean));
      earlier = λ runs h clean. looks.clean clean;
      agrees = why;
      crash = λ runs may h. lasts runs may (λ left clean trees found. left (looks.clean clean) trees (looks.outcomes trees found));
    }

    pub looked_serves : (call : StoreCall) → ((runs : List Run) → runs_after call runs ≡ runs)
        → ((runs : List Run) (may : List (List Run)) → ((read_only_spec g).leaves old may → (read_only_spec g).leaves new may) → SurvivesCrash (read_only_spec g).leaves call runs may old new)
        → ((runs : List Run) → HasRuns (g.view old) runs → IsClean (g.view new) → Agrees runs call) → Serves (read_only_spec g) call old new
    looked_serves call same lasts why = read_serves HasRuns (still_has g old new looks) call same lasts (λ runs h. why runs h.0)
