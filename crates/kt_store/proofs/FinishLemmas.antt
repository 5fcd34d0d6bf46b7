-- The effect of the UPDATE of `finish`.
use Rattle.kt_store.proofs.Common.{Answers, Applies, AreNumbered, AtPlace, Bool, Database, Does, Enforced, Given, Int, IsPermutation, Less, List, Mode, None, Null, Ok, OnRows, Option, Program, Row, Run, Some, IsSchema2Database, Tally, Task, Trees, Update, Updates, Written, [], ap, arith, col, finished_run_row, edit_of, false, filter, filter_all, finish, ids_of, is_eq, lit, map, nat_tests, not, one_permutation, one_step, option_to_list, pos, put_all, put_row, refl, rowid, run_at, run_row, runs_table, schema_2, slice_get, subst, suc, sym, taken_by, true, value_cmp, without_rowid, works, zero, ℕ, ◌+◌, ◌<◌, ◌==◌, ◌∙◌, ◌∷◌, ◌≡◌}
use Rattle.sqlite_rules.specs.Action.{Writes}
use Rattle.kt_store.proofs.SqlFacts.{finish_query, is}
use Rattle.kt_store.proofs.InsertLemmas.{concluded}
use Rattle.kt_store.proofs.RunLemmas.{picked_run}
use Rattle.kt_store.proofs.QueryLemmas.{answered, picked, show}
use Rattle.kt_store.proofs.RunsByNumber.{all_above, number_at}
use Rattle.kt_store.proofs.Values.{above, below, cast_int, cast_null, equal, same_value, went}

abbrev pub finish_program : Program
finish_program = record { lets = []; body = finish_query }

-- the rows that an UPDATE writes are those of its query
pub updates : (task : Task) (q : Program) (given : Row) (db : Trees) (done : Written) → Updates task q given db (Ok done)
    → (rows : List Row) × Answers (record { schema = task.schema; trees = db }) q given rows × Writes task.schema task.keys db (edit_of db task.table (ids_of rows) Given 1 rows) (Ok done.trees)
updates task q given db done h =
    let asked = went h in
    let wrote = went asked.2 in
    (asked.0, asked.1, subst (λ t. Writes task.schema task.keys db (edit_of db task.table (ids_of asked.0) Given 1 asked.0) (Ok t)) (sym (ap (λ (w : Written). w.trees) (same_value wrote.2))) wrote.1)

pub finish_works : (r : Run) (trees : Trees) → let edit = edit_of trees runs_table (ids_of (finished_run_row r ∷ [])) Given 1 (finished_run_row r ∷ []) in works schema_2 Enforced 0 edit.table.tree (taken_by trees edit) edit.news ≡ []
finish_works r trees = refl

-- the UPDATE of `finish` writes the row of one run as finished
pub finish_writes : (limit : Option ℕ) (mode : Mode) (n : ℕ) (db after : Database) (text : List ℕ) (tally : Tally) (runs : List Run) (r : Run) → mode.keys ≡ Enforced → IsSchema2Database db runs → run_at runs n ≡ Some r
    → Does limit mode (Int (pos n) ∷ []) db text None (Update 1 finish_program) (Ok (tally, after))
    → (after.schema ≡ schema_2) × Applies schema_2 Enforced db.trees (edit_of db.trees runs_table (ids_of (finished_run_row r ∷ [])) Given 1 (finished_run_row r ∷ [])) after.trees
finish_writes limit mode n db after text tally runs r enforced has there does =
    let params = Int (pos n) ∷ [] in
    let on_table = subst (λ x. AtPlace (λ t. OnRows (record { limit = limit; keys = mode.keys; schema = x; table = t; params = params }) mode None (Update 1 finish_program) db.trees) (slice_get x.tables 1) (Ok (tally, after))) has.schema does in
    let task : Task = record { limit = limit; keys = Enforced; schema = schema_2; table = runs_table; params = params } in
    let rows : OnRows task mode None (Update 1 finish_program) db.trees (Ok (tally, after)) =
    subst (λ k. OnRows (record { limit = limit; keys = k; schema = schema_2; table = runs_table; params = params }) mode None (Update 1 finish_program) db.trees (Ok (tally, after))) enforced on_table in
    let done = went rows in
    let ends = concluded task mode done.0 tally after done.2 in
    let wrote = updates task finish_program params db.trees done.0 done.1 in
    let tests = is (col 1 0) (col 0 0) ∷ [] in
    let project = col 1 0 ∷ col 1 0 ∷ lit Null ∷ col 1 2 ∷ col 1 3 ∷ lit (Int (pos 1)) ∷ [] in
    let all = answered 2 tests project [] db.trees params wrote.0 wrote.1.answer in
    let found : picked 2 tests project [] db.trees params ≡ run_row r ∷ [] =
    ap (filter _) has.runs_are ∙ picked_run n (col 0 0) params (λ r. refl) runs has.valid.numbered ∙ ap (λ o. map run_row (option_to_list o)) there in
    let one : wrote.0 ≡ finished_run_row r ∷ [] = one_permutation (finished_run_row r) wrote.0 (subst (λ l. IsPermutation (map (show 2 tests project [] db.trees params) l) wrote.0) found all) in
    let edit : Writes schema_2 Enforced db.trees (edit_of db.trees runs_table (ids_of (finished_run_row r ∷ [])) Given 1 (finished_run_row r ∷ [])) (Ok done.0.trees) =
    subst (λ l. Writes schema_2 Enforced db.trees (edit_of db.trees runs_table (ids_of l) Given 1 l) (Ok done.0.trees)) one wrote.2 in
    (ap (λ (d : Database). d.schema) ends.1, subst (Applies schema_2 Enforced db.trees _) (sym (ap (λ (d : Database). d.trees) ends.1)) (one_step schema_2 Enforced db.trees done.0.trees _ (finish_works r db.trees) edit))

abbrev lacks : ℕ → Row → Bool
lacks n r = not (is_eq (value_cmp (rowid r) (Int (pos n))))

all_stay : (from n : ℕ) (runs : List Run) → AreNumbered from runs → n < from → filter (lacks n) (map run_row runs) ≡ map run_row runs
all_stay from n runs h low = filter_all (lacks n) (map run_row runs) (all_above (λ r. lacks n r ≡ true) n from runs (λ r past. ap (λ o. not (is_eq o)) (above r.number n past)) h low)

goes_first : (from n : ℕ) (new : Row) (runs : List Run) → AreNumbered from runs → rowid new ≡ Int (pos n) → n < from → put_row new (map run_row runs) ≡ new ∷ map run_row runs
goes_first from n new [] h id low = refl
goes_first from n new (r ∷ runs) h id low = rw (id, above r.number n (omega (arith, h.0))) refl

-- removing the row of a run and inserting it as finished gives the rows of the runs with this run
-- finished
pub replaced : (from k : ℕ) (runs : List Run) (r : Run) → AreNumbered from runs → slice_get runs k ≡ Some r
    → put_row (run_row (record r { finished = true })) (filter (lacks (from + k)) (map run_row runs)) ≡ map run_row (finish (from + k) runs)
replaced from k [] r h there = absurd cc
replaced from zero (x ∷ runs) r h there =
    let same : x ≡ r = cc in
    let number : (x.number == from + 0) ≡ true = grind (arith, nat_tests, h.0) in
    let gone : lacks (from + 0) (run_row x) ≡ false = ap (λ n. not (is_eq (value_cmp (Int (pos x.number)) (Int (pos n))))) (omega (arith, h.0)) ∙ ap (λ o. not (is_eq o)) (equal x.number) in
    let id : Int (pos r.number) ≡ Int (pos (from + 0)) = ap (λ n. Int (pos n)) (ap (λ (y : Run). y.number) (sym same) ∙ omega (arith, h.0)) in
    rw (number, gone) (ap (put_row (run_row (record r { finished = true }))) (all_stay (suc from) (from + 0) runs h.1 (omega arith))
    ∙ goes_first (suc from) (from + 0) (run_row (record r { finished = true })) runs h.1 id (omega arith) ∙ ap (λ (y : Run). run_row (record y { finished = true }) ∷ map run_row runs) (sym same))
replaced from (suc k) (x ∷ runs) r h there =
    let place : suc from + k ≡ from + suc k = omega arith in
    let number : r.number ≡ from + suc k = number_at (suc from) k runs r h.1 there ∙ place in
    let apart : (x.number == from + suc k) ≡ false = grind (arith, nat_tests, h.0) in
    let low : x.number < from + suc k = omega (arith, h.0) in
    let stays : lacks (from + suc k) (run_row x) ≡ true = ap (λ o. not (is_eq o)) (below x.number (from + suc k) low) in
    let first : value_cmp (rowid (run_row x)) (rowid (run_row (record r { finished = true }))) ≡ Less = below x.number r.number (omega (arith, low, number)) in
    let rest : put_row (run_row (record r { finished = true })) (filter (lacks (from + suc k)) (map run_row runs)) ≡ map run_row (finish (from + suc k) runs) =
    subst (λ n. put_row (run_row (record r { finished = true })) (filter (lacks n) (map run_row runs)) ≡ map run_row (finish n runs)) place (replaced (suc from) k runs r h.1 there) in
    rw (apart, stays) (rw first (ap (λ l. run_row x ∷ l) rest))

pub finished_rows : (k : ℕ) (db after : Trees) (runs : List Run) (r : Run) → AreNumbered 1 runs → db 2 ≡ map run_row runs → run_at runs (suc k) ≡ Some r
    → Applies schema_2 Enforced db (edit_of db runs_table (ids_of (finished_run_row r ∷ [])) Given 1 (finished_run_row r ∷ [])) after → after 2 ≡ map run_row (finish (suc k) runs)
finished_rows k db after runs r h rows there did =
    let number : r.number ≡ suc k = number_at 1 k runs r h there ∙ omega arith in
    let news : (edit_of db runs_table (ids_of (finished_run_row r ∷ [])) Given 1 (finished_run_row r ∷ [])).news ≡ run_row (record r { finished = true }) ∷ [] =
    rw (cast_int (pos r.number), cast_null, cast_int (pos r.started), cast_int (pos r.total), cast_int (pos 1)) refl in
    did.rows ∙ ap (put_all (without_rowid (pos r.number) (db 2))) news
    ∙ ap (λ l. put_row (run_row (record r { finished = true })) (without_rowid (pos r.number) l)) rows
    ∙ ap (λ n. put_row (run_row (record r { finished = true })) (without_rowid (pos n) (map run_row runs))) (number ∙ omega arith)
    ∙ replaced 1 k runs r h there ∙ ap (λ n. map run_row (finish n runs)) (omega arith)
