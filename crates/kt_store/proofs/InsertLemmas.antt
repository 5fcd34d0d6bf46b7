-- The effect of an INSERT of literal rows into a table without AUTOINCREMENT and without a foreign
-- key that refers to it.
use Rattle.kt_store.proofs.Common.{Above, Applies, AtPlace, Chosen, Concludes, Counts, CountsIn, Database, Does, Edit, Enforced, Gives, Insert, Inserts, List, MatchBool, Mode, None, Ok, OnRows, Option, Row, Schema, Some, Table, Tally, Task, Term, Trees, Values, Written, [], ap, append-nil, cond, count_of, edit_of, false, int_cmp, is_lt, last_id, length, one_step, refl, rowids_for, sequence, slice_get, stamped, subst, sym, taken_by, value_rows, works, ℕ, ℤ, ◌/◌, ◌∙◌, ◌≡◌}
use Rattle.sqlite_rules.specs.Action.{Writes}
use Rattle.kt_store.proofs.Values.{same_value, went}

uncounted : (task : Task) (mid : Trees) (counter : Option Row) (top : ℤ) (next : Trees) → task.table.is_counted ≡ false → Counts task mid counter top (Ok next) → next ≡ mid
uncounted task mid counter top next plain h =
    same_value (subst (λ b. MatchBool (cond b (is_lt (int_cmp (count_of counter) top)) false) (CountsIn task mid counter top (sequence task.schema) (Ok next)) (Gives mid (Ok next))) plain h)

module _ (task : Task) (terms : List Term) (width : ℕ) (plain : task.table.is_counted ≡ false) (stampless : task.table.stamps.terms ≡ []) (db : Trees) where
  abbrev pub sources : List Row
  sources = value_rows task.params width (length terms / width) terms

  abbrev pub target : Edit
  target = edit_of db task.table [] Chosen 0 sources

  pub record Puts (done : Written) : Type 0 where
    pub writes : Writes task.schema task.keys db target (Ok done.trees)
    pub last_is : done.last ≡ last_id target.news

  puts : (rows : List Row) (counter : Option Row) (top : ℤ) (mid next : Trees) (done : Written) → rows ≡ value_rows (stamped task.table task.params) width (length terms / width) terms
      → let edit = edit_of db task.table [] (rowids_for task.table (count_of counter)) 0 rows in Writes task.schema task.keys db edit (Ok mid)
      → Counts task mid counter top (Ok next) → done ≡ record { trees = next; rows = edit.news; last = last_id edit.news } → Puts done
  puts rows counter top mid next done given wrote counted is =
      let fill : stamped task.table task.params ≡ task.params = rw (stampless, append-nil task.params) refl in
      let same : edit_of db task.table [] (rowids_for task.table (count_of counter)) 0 rows ≡ target =
      ap (λ k. edit_of db task.table [] (cond k (Above (count_of counter)) Chosen) 0 rows) plain
      ∙ ap (edit_of db task.table [] Chosen 0) (given ∙ ap (λ p. value_rows p width (length terms / width) terms) fill) in
      let trees : mid ≡ done.trees = sym (uncounted task mid counter top next plain counted) ∙ sym (ap (λ (it : Written). it.trees) is) in
      record {
        writes = subst (λ e. Writes task.schema task.keys db e (Ok done.trees)) same (subst (λ t. Writes task.schema task.keys db (edit_of db task.table [] (rowids_for task.table (count_of counter)) 0 rows) (Ok t)) trees wrote);
        last_is = ap (λ (it : Written). it.last) is ∙ ap (λ (e : Edit). last_id e.news) same;
      }

  pub inserts : (done : Written) → Inserts task (Values terms width) db (Ok done) → Puts done
  inserts done h =
      let given = went h in
      let counter = went given.2 in
      let written = went counter.2 in
      let counted = went written.2 in
      puts given.0 counter.0 _ written.0 counted.0 done given.1.1 written.1 counted.1 (same_value counted.2)

pub record Changed (schema : Schema) (table : Table) (rows : List Row) (db after : Database) (tally : Tally) : Type 0 where
  pub schema_is : after.schema ≡ schema
  pub applies : Applies schema Enforced db.trees (edit_of db.trees table [] Chosen 0 rows) after.trees
  pub last_is : tally.last ≡ last_id (edit_of db.trees table [] Chosen 0 rows).news

pub concluded : (task : Task) (mode : Mode) (w : Written) (tally : Tally) (after : Database) → Concludes task mode None w (Ok (tally, after))
    → (tally.last ≡ w.last) × (after ≡ record { schema = task.schema; trees = w.trees })
concluded task mode w tally after h =
    let same = same_value (went (went h).2).2 in
    (ap (λ (p : Tally × Database). p.0.last) same, ap (λ (p : Tally × Database). p.1) same)

module _ (schema : Schema) (at : ℕ) (table : Table) (terms : List Term) (width : ℕ) (found : slice_get schema.tables at ≡ Some table) (plain : table.is_counted ≡ false) (stampless : table.stamps.terms ≡ [])
    (none : (params : Row) (trees : Trees) → let edit = edit_of trees table [] Chosen 0 (value_rows params width (length terms / width) terms) in works schema Enforced 0 edit.table.tree (taken_by trees edit) edit.news ≡ []) where
  pub changed : (limit : Option ℕ) (mode : Mode) (params : Row) (db after : Database) (text : List ℕ) (tally : Tally) → mode.keys ≡ Enforced → db.schema ≡ schema
      → Does limit mode params db text None (Insert at (Values terms width)) (Ok (tally, after)) → Changed schema table (value_rows params width (length terms / width) terms) db after tally
  changed limit mode params db after text tally enforced has does =
      let on_table = subst (λ x. AtPlace (λ t. OnRows (record { limit = limit; keys = mode.keys; schema = x; table = t; params = params }) mode None (Insert at (Values terms width)) db.trees) (slice_get x.tables at) (Ok (tally, after))) has does in
      let on_rows = subst (λ o. AtPlace (λ t. OnRows (record { limit = limit; keys = mode.keys; schema = schema; table = t; params = params }) mode None (Insert at (Values terms width)) db.trees) o (Ok (tally, after))) found on_table in
      let task : Task = record { limit = limit; keys = Enforced; schema = schema; table = table; params = params } in
      let rows : OnRows task mode None (Insert at (Values terms width)) db.trees (Ok (tally, after)) =
      subst (λ k. OnRows (record { limit = limit; keys = k; schema = schema; table = table; params = params }) mode None (Insert at (Values terms width)) db.trees (Ok (tally, after))) enforced on_rows in
      let done = went rows in
      let ends = concluded task mode done.0 tally after done.2 in
      let put = inserts task terms width plain stampless db.trees done.0 done.1 in
      record {
        schema_is = ap (λ (d : Database). d.schema) ends.1;
        applies = subst (Applies schema Enforced db.trees _) (sym (ap (λ (d : Database). d.trees) ends.1)) (one_step schema Enforced db.trees done.0.trees _ (none params db.trees) put.writes);
        last_is = ends.0 ∙ put.last_is;
      }
