-- The statements of a transaction, executed in order, and the state after their commit.
use Rattle.kt_store.proofs.Common.{Commits, CommitsNothingYet, Database, Error, ExecutesInside, Fails, FailsToCommit, Ghosts, HasCleanDisk, Held, IsSettledWhileOpen, IsDatabase, IsRolledBack, IsSettled, IsTrue, IsSchema2Of, KeepsCommit, Leaves, List, MayCommit, Result, Row, Run, ExecutesInOrder, ExecutesOne, StandsFor, State, Statement, Survives, IsSchema2Database, Trees, RollsBack, Variable, [], ap, arith, begun, both_ways, cases_Bool, drop, drop-cons, drop_more, false, get_or, inl, inr, inside_keeps, keeps_then, length, map, pair_statement, pair_statements, plain_statements, refl, state, subst, suc, survives_begin, survives_then, survives_weaker, sym, ℕ, ◌+◌, ◌<◌, ◌∙◌, ◌∷◌, ◌≡◌}
use Rattle.kt_store.proofs.StepLemmas.{undone_settled}

module _ {S : Type 0} (g : Ghosts S) where
  -- `SoFar statements rest start now`: a transaction at `start` reached `now`; if `rest` is
  -- executed from `now`, all `statements` were executed from `start`
  pub record SoFar (statements rest : List Statement) (start now : Held S) : Type 0 where
    pub survives : Survives (state g start) (state g now) (λ (db : Trees). ⊥)
    pub keeps : HasCleanDisk (state g now) → KeepsCommit (state g start) (state g now)
    pub inside : HasCleanDisk (state g now) → IsTrue (state g start).in_transaction → IsTrue (state g now).in_transaction
    pub runs : HasCleanDisk (state g now) → IsTrue (state g start).in_transaction → (end : Held S) → ExecutesInOrder g rest now end → ExecutesInOrder g statements start end

  -- executing one more statement keeps `SoFar`
  pub one_done : (statements rest : List Statement) (s : Statement) (start now next : Held S) → SoFar statements (s ∷ rest) start now → CommitsNothingYet g now next → ExecutesOne g s now next → SoFar statements rest start next
  one_done statements rest s start now next so_far later ran =
      let early : HasCleanDisk (state g next) → HasCleanDisk (state g now) = λ clean. omega (arith, clean, later.survives.clean) in
      record {
        survives = survives_then (state g start) (state g now) (state g next) (λ _. ⊥) (λ _. ⊥) (λ _. ⊥) (λ _ db none. none) (λ _ db none. none) so_far.survives later.survives;
        keeps = λ clean. keeps_then (state g start) (state g now) (state g next) (so_far.keeps (early clean)) (later.keeps clean);
        inside = λ clean inside. (ran clean (so_far.inside (early clean) inside)).1.1.mode;
        runs = λ clean inside end later. so_far.runs (early clean) inside end (next, ran clean (so_far.inside (early clean) inside), later);
      }

-- the statements for the properties from index `i` on are that for property `i`, followed by those
-- for the later ones
pub pairs_at : (run position place i : ℕ) (vs : List Variable) (v : Variable) → i < length vs → v ≡ get_or vs i v → pair_statements run position place (drop i vs) ≡ pair_statement run position place v ∷ pair_statements run position (suc place) (drop (suc i) vs)
pairs_at run position place i vs v low is = ap (pair_statements run position place) (drop-cons vs i v low ∙ ap (λ y. y ∷ drop (suc i) vs) (sym is))

-- the statements for the texts from index `i` on are that of text `i`, followed by those of the
-- later ones
pub texts_at : {T : Type 0} (see : T → List ℕ) (i : ℕ) (vs : List T) (d : T) → i < length vs → plain_statements (map see (drop i vs)) ≡ (see (get_or vs i d), [], []) ∷ plain_statements (map see (drop (i + 1) vs))
texts_at see i vs d low = ap (λ l. plain_statements (map see l)) (drop_more vs i d low)

-- ---- the parts of a state that a statement of a transaction keeps

-- a statement inside a transaction commits nothing
pub step_keeps : {S : Type 0} (g : Ghosts S) (old new : Held S) (sql : List ℕ) (params : Row) (r : Result ℕ Error)
    → (IsTrue (state g old).in_transaction → ExecutesInside 0 sql params (state g old) (state g new) r) → ((state g old).in_transaction ≡ false → new ≡ old) → KeepsCommit (state g old) (state g new)
step_keeps g old new sql params r runs ended = elim (cases_Bool (state g old).in_transaction) [
  | inl inside ↦ inside_keeps (state g old) (state g new) 0 false sql params r (runs inside)
  | inr outside ↦ subst (λ h. KeepsCommit (state g old) (state g h)) (sym (ended outside)) (record { was_open = λ h. h; committed = λ h. refl })
]

-- ---- the state after statements that are executed in one commit

-- a commit inside a transaction fails only if the storage fails
store_fails : (old new : State) (error : Error) → IsTrue old.in_transaction → FailsToCommit old new error → Fails old new ⊥ error
store_fails old new error inside (inl failed) = failed
store_fails old new error inside (inr ended) = absurd (both_ways _ ended.1 inside)

module _ {S : Type 0} (g : Ghosts S) (old left new : Held S) where
  -- a transaction that is rolled back is undone
  pub rolled_undoes : KeepsCommit (state g (begun old)) (state g left) → IsRolledBack (state g left) (state g new) → RollsBack g old new
  rolled_undoes keeps back = inr (record {
    was_open = λ opened. keeps.was_open (back.was_open opened);
    now = λ opened. (back.undone opened).0 ∙ keeps.committed (back.was_open opened);
    committed = λ opened. (back.undone opened).1 ∙ keeps.committed (back.was_open opened);
    autocommit = back.autocommit;
  })

  -- a transaction whose commit failed is undone
  pub failed_undoes : (error : Error) → IsTrue (state g left).in_transaction → KeepsCommit (state g (begun old)) (state g left) → FailsToCommit (state g left) (state g new) error → RollsBack g old new
  failed_undoes error inside keeps failed = rolled_undoes keeps (store_fails (state g left) (state g new) error inside failed).3

  -- a crash leaves what it left before, or what the commit writes
  pub commit_survives : (statements : List Statement) → (HasCleanDisk (state g left) → ExecutesInOrder g statements (begun old) left)
      → Survives (state g (begun old)) (state g left) (λ (db : Trees). ⊥) → Survives (state g left) (state g new) (λ db. db ≡ (state g left).now.trees) → Survives (state g old) (state g new) (MayCommit g statements old)
  commit_survives statements ran inside commit =
      survives_begin g old (state g new) (MayCommit g statements old)
      (survives_then (state g (begun old)) (state g left) (state g new) (λ _. ⊥) (λ db. db ≡ (state g left).now.trees) (MayCommit g statements old) (λ _ db none. absurd none)
      (λ clean db is. (left, ran (omega (arith, clean, commit.clean)), is)) inside commit)

-- a connection whose transaction is undone is settled as before
pub undone_holds : {S : Type 0} (g : Ghosts S) (P : Database → Type 0) (old new : Held S) → IsSettledWhileOpen P (state g old) → (HasCleanDisk (state g new) → HasCleanDisk (state g old)) → (HasCleanDisk (state g new) → RollsBack g old new) → IsSettledWhileOpen P (state g new)
undone_holds g P old new has earlier left clean opened = elim (left clean) [
  | inl same ↦ subst (λ h. HasCleanDisk (state g h) → IsTrue (state g h).is_open → IsSettled P (state g h)) (sym same) has clean opened
  | inr undone ↦ undone_settled P (state g old) (state g new) (has (earlier clean) (undone.was_open opened)) undone opened
]

-- a commit of statements that lead to the tables of the runs `more`
module _ {S : Type 0} (g : Ghosts S) (statements : List Statement) (old new : Held S) (more : List Run) (survives : Survives (state g old) (state g new) (MayCommit g statements old))
    (made : HasCleanDisk (state g old) → (left : Held S) → ExecutesInOrder g statements (begun old) left → IsSchema2Database (state g left).now more × IsDatabase (state g left).now) where
  early : HasCleanDisk (state g new) → HasCleanDisk (state g old)
  early clean = omega (arith, clean, survives.clean)

  -- after the commit, the tables represent `more`
  pub commit_stands : (HasCleanDisk (state g new) → Commits g statements old new) → StandsFor (state g new) more
  commit_stands done clean opened =
      let it = done clean in
      record { autocommit = it.2.mode; settled = it.2.committed_is ∙ sym it.2.now_is; tables = subst (λ (db : Database). IsSchema2Database db more) (sym it.2.now_is) (made (early clean) it.0 it.1).0 }

  -- after the commit, a crash leaves `more`
  pub commit_lasts : ((db : Trees) → IsTrue (state g new).is_open → (state g new).may_leave db → db ≡ (state g new).committed.trees) → (HasCleanDisk (state g new) → Commits g statements old new) → Leaves (state g new) (IsSchema2Of more)
  commit_lasts law done clean trees may =
      let it = done clean in
      let has = commit_stands done clean it.2.is_open in
      ((state g new).now, subst IsDatabase (sym it.2.now_is) (made (early clean) it.0 it.1).1, law trees it.2.is_open may ∙ ap (λ (d : Database). d.trees) has.settled, has.tables)

  -- during the commit, a crash leaves what it left before, or `more`
  pub commit_crash : Survives (state g old) (state g new) (IsSchema2Of more)
  commit_crash = survives_weaker (state g old) (state g new) (MayCommit g statements old) (IsSchema2Of more)
      (λ clean db it. let all = made (early clean) it.0 it.1 in ((state g it.0).now, all.1, it.2, all.0)) survives

  pub commit_takes : ((db : Trees) → IsTrue (state g new).is_open → (state g new).may_leave db → db ≡ (state g new).committed.trees) → (HasCleanDisk (state g new) → Commits g statements old new)
      → StandsFor (state g new) more × Leaves (state g new) (IsSchema2Of more) × Survives (state g old) (state g new) (IsSchema2Of more)
  commit_takes law done = (commit_stands done, commit_lasts law done, commit_crash)
