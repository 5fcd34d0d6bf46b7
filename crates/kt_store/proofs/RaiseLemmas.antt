-- The effect of the statements that migrate schema 1 to schema 2.
use Rattle.kt_store.proofs.Common.{AllByRecursion, Applies, AtPlace, Bool, Database, Does, Enforced, Equal, Executes, Ghosts, Given, Greater, Held, Int, Integer, IsDatabase, IsPermutation, IsPermutation-refl, IsTrue, Less, List, Mode, None, Null, Ok, IsSchema1Database, OnRows, Option, Ordering, Program, Row, Run, ExecutesInOrder, State, IsSchema2Database, Tally, Task, Term, Text, Trees, Unique, Update, Value, [], agree, and_parts, ap, are_fresh, arith, begun, binary, cast, clashes, codes, col, cond, create_props_sql, differ, drop, edit_of, entry_rows, false, filter, first_key, has_rowid, have_rowids, id_in, ids_of, int_is, ints, is_eq, is_int, is_null, lit, map, match_ordering, meta_table, mode_of, not, one_permutation, one_step, or_left, or_right, passes, plain, pos, prop_rows, props, put_all, migration_statements, update_schema_sql, refl, runs_as, schema_1, schema_2, slice_get, state, statement_of, subst, sym, taken_by, true, understood, value_cmp, value_cmp-Int, without_rowid, works, ℕ, ◌&&◌, ◌||◌, ◌∙◌, ◌∷◌, ◌≡◌}
use Rattle.kt_store.proofs.Values.{cast_null, cast_int, went}
use Rattle.sqlite_rules.specs.Action.{Writes}
use Rattle.sqlite.specs.State as told
use Rattle.kt_store.proofs.SqlFacts.{raise_query, raise_is}
use Rattle.kt_store.proofs.InsertLemmas.{concluded}
use Rattle.kt_store.proofs.CreateLemmas.{props_create, makes}
use Rattle.kt_store.proofs.FinishLemmas.{updates}
use Rattle.kt_store.proofs.MetaLemmas.{one_row, tests, passes_it}
use Rattle.kt_store.proofs.PutLemmas.{no_pairs}
use Rattle.kt_store.proofs.QueryLemmas.{answered, picked, show}

-- `number_row x`: the row of schema number 1 with the rowid `x`; `next_row x` is that of schema
-- number 2
abbrev pub number_row : Value → Row
number_row x = x ∷ Text (codes "schema") ∷ Int (pos 1) ∷ []

abbrev pub next_row : Value → Row
next_row y = y ∷ Text (codes "schema") ∷ Int (pos 2) ∷ []

same_name : (x y : Value) → agree plain (1 ∷ []) (number_row x) (1 ∷ []) (next_row y) ≡ true
unfolding binary value_cmp first_key lib.Ieee.is_nan lib.Ieee.lt
same_name x y = refl

differs : (x y : Value) (o : Ordering) → is_null x ≡ false → is_null y ≡ false → value_cmp x y ≡ o → is_eq o ≡ false → differ x y ≡ true
unfolding binary
differs x y Equal one two cmp apart = absurd (let e : true ≡ false = apart in cc)
differs x y o one two cmp apart = rw (one, two, cmp) refl

-- a row fails a uniqueness check if it clashes with another row
refuted : (b rest : Bool) → (not (true && b) && rest) ≡ true → ¬ (b ≡ true)
refuted true rest h is = let e : false ≡ true = h in cc
refuted false rest h is = cc

abbrev IsUnique : Trees → Type 0
IsUnique db = AllByRecursion (λ row. passes Unique schema_2 db meta_table row ≡ true) (db 0)

-- the names of the rows of `meta` are unique, so `meta` never has both the row of schema number 1
-- and that of 2
module _ (db : Trees) (x y : Value) (unique : IsUnique db) (one : is_null x ≡ false) (two : is_null y ≡ false) where
  never_before : value_cmp x y ≡ Less → ¬ (db 0 ≡ number_row x ∷ next_row y ∷ [])
  never_before cmp is =
      let rows = subst (AllByRecursion (λ row. passes Unique schema_2 db meta_table row ≡ true)) is unique in
      let clash : clashes plain (1 ∷ []) (db 0) (next_row y) ≡ true = ap (λ l. clashes plain (1 ∷ []) l (next_row y)) is ∙ rw (same_name x y, differs x y Less one two cmp refl) refl in
      refuted (clashes plain (1 ∷ []) (db 0) (next_row y)) _ rows.1.0 clash

  never_behind : value_cmp x y ≡ Greater → ¬ (db 0 ≡ next_row y ∷ number_row x ∷ [])
  never_behind cmp is =
      let rows = subst (AllByRecursion (λ row. passes Unique schema_2 db meta_table row ≡ true)) is unique in
      let clash : clashes plain (1 ∷ []) (db 0) (next_row y) ≡ true = ap (λ l. clashes plain (1 ∷ []) l (next_row y)) is ∙ or_right _ _ (or_left _ false (rw (same_name x y, differs x y Greater one two cmp refl) refl)) in
      refuted (clashes plain (1 ∷ []) (db 0) (next_row y)) _ rows.0 clash

  never_beside : (o : Ordering) → value_cmp x y ≡ o → (not (is_eq o || false) && true) ≡ true → ¬ (db 0 ≡ match_ordering o (number_row x ∷ next_row y ∷ []) (next_row y ∷ []) (next_row y ∷ number_row x ∷ []))
  never_beside Less cmp fresh is = never_before cmp is
  never_beside Equal cmp fresh is = let e : false ≡ true = fresh in cc
  never_beside Greater cmp fresh is = never_behind cmp is

abbrev kept : Bool → Value → List Row
kept gone x = cond (not gone) (number_row x ∷ []) []

abbrev Alone : Trees → Type 0
Alone db = map (drop 1) (db 0) ≡ (Text (codes "schema") ∷ Int (pos 2) ∷ []) ∷ []

some_int : (y : Value) → (is_int y && true) ≡ true → is_null y ≡ false
some_int y h = ap is_null (int_is y (and_parts (is_int y) true h).0)

-- after the UPDATE, the new row is the only row of `meta`
pub alone : (db : Trees) (x : Value) (gone : Bool) → has_rowid (id_in x) (number_row x) ≡ gone → IsUnique db → have_rowids (next_row (cast Integer x) ∷ []) ≡ true
    → are_fresh (kept gone x) (next_row (cast Integer x) ∷ []) ≡ true → db 0 ≡ put_all (kept gone x) (next_row (cast Integer x) ∷ []) → Alone db
alone db x true is unique keyed fresh rows = ap (map (drop 1)) rows
alone db Null false is unique keyed fresh rows = absurd (let e : (is_int Null && true) ≡ true = subst (λ y. (is_int y && true) ≡ true) cast_null keyed in let f : false ≡ true = e in cc)
alone db (Int n) false is unique keyed fresh rows = absurd (let e : true ≡ false = sym (ap is_eq (value_cmp-Int n n) ∙ grind (arith, ints)) ∙ is in cc)
alone db x false is unique keyed fresh rows = absurd (never_beside db x (cast Integer x) unique refl (some_int _ keyed) (value_cmp x (cast Integer x)) refl fresh rows)

-- ---- the effect of the statements that migrate schema 1 to schema 2

abbrev raise_program : Program
raise_program = record { lets = []; body = raise_query }

abbrev raised_row : Value → Row
raised_row x = x ∷ x ∷ Text (codes "schema") ∷ Int (pos 2) ∷ []

raise_works : (rowid : Value) (trees : Trees) → let edit = edit_of trees meta_table (ids_of (raised_row rowid ∷ [])) Given 1 (raised_row rowid ∷ []) in works schema_2 Enforced 0 edit.table.tree (taken_by trees edit) edit.news ≡ []
raise_works rowid trees = refl

abbrev project : List Term
project = col 1 0 ∷ col 1 0 ∷ col 1 1 ∷ lit (Int (pos 2)) ∷ []

module _ (rowid : Value) (db after : Database) (has : db.schema ≡ schema_2) (marked : db.trees 0 ≡ number_row rowid ∷ []) where
  abbrev Raises : Type 0
  Raises = Applies schema_2 Enforced db.trees (edit_of db.trees meta_table (ids_of (raised_row rowid ∷ [])) Given 1 (raised_row rowid ∷ [])) after.trees

  raise_writes : (limit : Option ℕ) (mode : Mode) (text : List ℕ) (tally : Tally) → mode.keys ≡ Enforced → Does limit mode [] db text None (Update 0 raise_program) (Ok (tally, after))
      → (after.schema ≡ schema_2) × Raises
  raise_writes limit mode text tally enforced does =
      let params : Row = [] in
      let on_table = subst (λ x. AtPlace (λ t. OnRows (record { limit = limit; keys = mode.keys; schema = x; table = t; params = params }) mode None (Update 0 raise_program) db.trees) (slice_get x.tables 0) (Ok (tally, after))) has does in
      let task : Task = record { limit = limit; keys = Enforced; schema = schema_2; table = meta_table; params = params } in
      let rows : OnRows task mode None (Update 0 raise_program) db.trees (Ok (tally, after)) =
      subst (λ k. OnRows (record { limit = limit; keys = k; schema = schema_2; table = meta_table; params = params }) mode None (Update 0 raise_program) db.trees (Ok (tally, after))) enforced on_table in
      let done = went rows in
      let ends = concluded task mode done.0 tally after done.2 in
      let wrote = updates task raise_program params db.trees done.0 done.1 in
      let all = answered 0 tests project [] db.trees params wrote.0 wrote.1.answer in
      let found : picked 0 tests project [] db.trees params ≡ number_row rowid ∷ [] = ap (filter _) marked ∙ rw (passes_it (pos 1) rowid) refl in
      let one : wrote.0 ≡ raised_row rowid ∷ [] = one_permutation (raised_row rowid) wrote.0 (subst (λ l. IsPermutation (map (show 0 tests project [] db.trees params) l) wrote.0) found all) in
      let edit : Writes schema_2 Enforced db.trees (edit_of db.trees meta_table (ids_of (raised_row rowid ∷ [])) Given 1 (raised_row rowid ∷ [])) (Ok done.0.trees) =
      subst (λ l. Writes schema_2 Enforced db.trees (edit_of db.trees meta_table (ids_of l) Given 1 l) (Ok done.0.trees)) one wrote.2 in
      (ap (λ (d : Database). d.schema) ends.1, subst (Applies schema_2 Enforced db.trees _) (sym (ap (λ (d : Database). d.trees) ends.1)) (one_step schema_2 Enforced db.trees done.0.trees _ (raise_works rowid db.trees) edit))

  raised_rows : Raises → map (drop 1) (after.trees 0) ≡ (Text (codes "schema") ∷ Int (pos 2) ∷ []) ∷ []
  raised_rows did =
      let news : (edit_of db.trees meta_table (ids_of (raised_row rowid ∷ [])) Given 1 (raised_row rowid ∷ [])).news ≡ next_row (cast Integer rowid) ∷ [] = rw (cast_int (pos 2)) refl in
      let left : without_rowid (id_in rowid) (db.trees 0) ≡ without_rowid (id_in rowid) (number_row rowid ∷ []) = ap (without_rowid (id_in rowid)) marked in
      alone after.trees rowid (has_rowid (id_in rowid) (number_row rowid)) refl (did.fits.rules Unique (λ e. cc)).0
      (subst (λ l. have_rowids l ≡ true) news did.keyed)
      (subst (λ l. are_fresh l (next_row (cast Integer rowid) ∷ []) ≡ true) left (subst (λ l. are_fresh (without_rowid (id_in rowid) (db.trees 0)) l ≡ true) news did.fresh))
      (did.rows ∙ ap (put_all (without_rowid (id_in rowid) (db.trees 0))) news ∙ ap (λ l. put_all l (next_row (cast Integer rowid) ∷ [])) left)

abbrev no_rows : List Row
no_rows = []

-- the two statements of the migration, executed in order, lead to tables of schema 2 with the same
-- runs
pub raised_all : (a b c : State) (i j : ℕ) (runs : List Run) → IsSchema1Database a.now runs → Executes create_props_sql [] a b (Ok i) → Executes update_schema_sql [] b c (Ok j) → IsSchema2Database c.now runs × IsDatabase c.now
raised_all a b c i j runs has one two =
    let first = makes schema_1 create_props_sql props props_create a b i has.schema one in
    let text = statement_of update_schema_sql (understood schema_2 update_schema_sql) in
    let w : told.Writes b c None (Update 0 raise_program) text [] j = runs_as update_schema_sql [] b c schema_2 first.schema_is (Update 0 raise_program) raise_is.0 raise_is.1 j two in
    let row = one_row (pos 1) (a.now.trees 0) has.marked in
    let marked : b.now.trees 0 ≡ number_row row.0 ∷ [] = first.others.0 ∙ row.1 in
    let did = raise_writes row.0 b.now c.now first.schema_is marked b.step_limit (mode_of b) text w.tally refl w.changed in
    let none : c.now.trees 5 ≡ [] = did.1.tables.1.1.1.0 (λ e. cc) ∙ first.empty in (
      record {
        schema = did.0;
        marked = raised_rows row.0 b.now c.now first.schema_is marked did.1;
        runs_are = did.1.tables.1.0 (λ e. cc) ∙ first.others.1.0 ∙ has.runs_are;
        entries_are = subst (λ l. IsPermutation (entry_rows runs) (map (drop 1) l)) (sym (did.1.tables.1.1.0 (λ e. cc) ∙ first.others.1.1.0)) has.entries_are;
        props_are = subst (λ l. IsPermutation (prop_rows runs) (map (drop 1) l)) (sym none) (subst (λ l. IsPermutation l (map (drop 1) no_rows)) (sym (no_pairs runs has.bare)) (IsPermutation-refl no_rows));
        valid = has.valid;
      },
      w.sound,
    )

-- the two statements of the migration, executed in a transaction, lead to tables of schema 2 with
-- the same runs
pub raised_in : {S : Type 0} (g : Ghosts S) (old left : Held S) (runs : List Run) → (IsTrue (state g old).is_open → IsSchema1Database (state g old).now runs) → ExecutesInOrder g migration_statements (begun old) left
    → IsSchema2Database (state g left).now runs × IsDatabase (state g left).now
raised_in g old left runs has ran =
    let two = ran.2 in
    subst (λ h. IsSchema2Database (state g h).now runs × IsDatabase (state g h).now) (sym two.2)
    (raised_all (state g (begun old)) (state g ran.0) (state g two.0) ran.1.0 two.1.0 runs (has ran.1.1.1.was_open) ran.1.1.0 two.1.1.0)
