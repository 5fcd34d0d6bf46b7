-- A file that holds runs lists the schema of their tables, and the results attached to it have
-- these runs.
use Rattle.kt_dbfile.proofs.Common.{AllByRecursion, AreOrdered, Bool, Schema2, Database, Err, FileStore, HasCleanDisk, HasCommitted, Held, HoldsAt, HoldsDatabase, HoldsIn, HoldsRuns, IfErr, IfOk, Image, Int, IsClean, IsValidRun, IsAttached, IsAttachedFiles, IsSchema2Of, List, Lists, OnlyReadsStore, Ok, OpensOver, OpensRuns, Option, PageMap, Recovers, Result, Row, Run, Schema, Shape, Some, StandsFor, StoreFault, Table, IsSchema2Database, Trees, Trees-set, Value, View, [], ap, ap₂, arith, catalog_tree, clean_if_open, cond, entries_table, false, file_state, get_or, in_use, index_reals, inl, inr, joined, layout_at, layout_of, length, lists_once, map, map-map, meets, meta_table, none-some, number_in, over_files, plain, plain_adopts, pos, props_table, recovers_once, refl, rowid, rows_at, same_Some, schema_2, shut_if_dirty_at, state, subst, sym, table_reals, true, unrooted, version_in, view, with_version, ℕ, ∥∥₁_elim, ◌%◌, ◌-◌, ◌<◌, ◌∙◌, ◌∷◌, ◌≡◌, ◌≢◌, ◌≤◌}
use Rattle.std.specs.Result.{result_ok}
use Rattle.sqlite_trees.specs.declared.store.Shape.TheVariants as kind
use Rattle.sqlite_store.specs.declared.catalog.Wanted.{Wanted}
use Rattle.sqlite_store.specs.Listing.{listed_from, file_trees, IsOurs}
use Rattle.sqlite_store.proofs.AlikeLemmas.{same_file}
use Rattle.sqlite_catalog.specs.Reading.{AreShaped}
use Rattle.sqlite.specs.Store.{Ghosts as StoreGhosts}
use Rattle.sqlite_disk.specs.declared.Disk.{Ghosts}
use Rattle.sqlite_disk.specs.Events.{Event, replay}
use Rattle.kt_store.specs.Attaching.{Describes, AttachSucceeds, InitialDatabase}
use Rattle.sqlite_pool.specs.Stored.{stored_size}
use Rattle.sqlite_wal.specs.PageSize.{IsPageSize}
use Rattle.sqlite_wal.specs.Reads.{OnlyReads}
use Rattle.sqlite_wal.proofs.CleanLemmas.{both_clean}
use Rattle.sqlite_disk.specs.declared.Files.{Files}
use Rattle.sqlite.specs.Files.{IsOpened, Finds as FindsFiles, image_of}
use Rattle.kt_store.specs.Ask.{IsDatabaseFault}
use Rattle.kt_store.specs.Stands.{IsSettledWhileOpen, RepresentsInSchema1}
use Rattle.kt_store.specs.Runs.{IsSchema1Database}
use Rattle.kt_store.specs.Types.{IsDatabase}
use Rattle.kt_dbfile.specs.FailedOpen.{HoldsInSchema1}
use Rattle.kt_store.specs.Files.{AreResultsOf, RepresentsImage, IsConvertedStore, IsConnectionTo, IsReadAs, recovered, unchanged}
use Rattle.kt_dbfile.specs.Inner.Opening.{FailsToAttach, IsConvertedFrom, IsOnlyRead}
use Rattle.kt_dbfile.proofs.Common.{adopts_of, same_image}

-- a result that was converted to an option
pub ok_is : {T E : Type 0} (r : Result T E) (o : Option T) (x : T) → o ≡ result_ok r → o ≡ Some x → r ≡ Ok x
ok_is (Ok y) o x is some = ap Ok (same_Some y x (sym is ∙ some))
ok_is (Err e) o x is some = absurd (none-some x (sym is ∙ some))

-- untouched files hold what they held
abbrev seen : List ℕ → List ℕ → Bool → List Event → List ℕ
seen log db is_log history = (replay (cond is_log log db) history).seen

pub as_found : (log db : List ℕ) {a b : Bool} {x y u v : List Event} → ((a ≡ true) × (x ≡ u)) × ((b ≡ false) × (y ≡ v))
    → ◌≡◌ {A = Image} (record { log = seen log db a x; db = seen log db b y }) (record { log = seen log db true u; db = seen log db false v })
as_found log db (p, q) = ap₂ (λ (l d : List ℕ). let r : Image = record { log = l; db = d } in r) (ap₂ (seen log db) p.0 p.1) (ap₂ (seen log db) q.0 q.1)

-- the items of a list of seven
pub seven : {X : Type 0} (xs : List X) (a b c d e f g : X) → 7 ≤ length xs → length xs < 8 → a ≡ get_or xs 0 a → b ≡ get_or xs 1 b → c ≡ get_or xs 2 c → d ≡ get_or xs 3 d → e ≡ get_or xs 4 e → f ≡ get_or xs 5 f → g ≡ get_or xs 6 g
    → xs ≡ a ∷ b ∷ c ∷ d ∷ e ∷ f ∷ g ∷ []
seven (x0 ∷ x1 ∷ x2 ∷ x3 ∷ x4 ∷ x5 ∷ x6 ∷ []) a b c d e f g long short p q r s t u v = rw (p, q, r, s, t, u, v) refl
seven (x0 ∷ x1 ∷ x2 ∷ x3 ∷ x4 ∷ x5 ∷ x6 ∷ x7 ∷ xs) a b c d e f g long short p q r s t u v = absurd (omega (arith, short))
seven _ a b c d e f g long short p q r s t u v = absurd (omega (arith, long))

-- the rowids of the objects
abbrev pub ids : List Value
ids = Int (pos 1) ∷ Int (pos 2) ∷ Int (pos 3) ∷ Int (pos 4) ∷ Int (pos 5) ∷ Int (pos 6) ∷ Int (pos 7) ∷ []

-- the trees of schema 2
abbrev pub layouts : List (Shape × ℕ)
layouts = (kind.Table, 0) ∷ (kind.Index plain, 0) ∷ (kind.Table, 0) ∷ (kind.Table, 0) ∷ (kind.Index plain, 0) ∷ (kind.Table, 0) ∷ (kind.Index plain, 0) ∷ []

abbrev Layout : Type 0
Layout = Shape × ℕ

abbrev lay : Shape → ℕ → Layout
lay s n = (s, n)

laid : {s t : Shape} {m n : ℕ} → s ≡ t → m ≡ n → lay s m ≡ lay t n
laid is same = ap₂ lay is same

-- no column is a REAL one
no_reals : (table t : Table) (columns : List ℕ) → Some table ≡ Some t → index_reals (table_reals table) columns ≡ 0 → index_reals (table_reals t) columns ≡ 0
no_reals table t columns is none = let same : table ≡ t = cc in subst (λ (u : Table). index_reals (table_reals u) columns ≡ 0) same none

layouts_are : (v : View) (rows : List Row) → AreShaped v schema_2 → map rowid rows ≡ ids → map (layout_of v) rows ≡ layouts
layouts_are v rows knows are =
    let at = λ (x : Value). layout_at v (number_in x - 1) in
    let t = knows.tables in
    let i = knows.indexes in
    let e0 : layout_at v 0 ≡ lay kind.Table 0 = laid t.0.0 t.0.1 in
    let e1 : layout_at v 1 ≡ lay (kind.Index plain) 0 = laid i.0.0 (i.0.1.2 ∙ no_reals meta_table i.0.1.0 (1 ∷ []) i.0.1.1 refl) in
    let e2 : layout_at v 2 ≡ lay kind.Table 0 = laid t.1.0.0 t.1.0.1 in
    let e3 : layout_at v 3 ≡ lay kind.Table 0 = laid t.1.1.0.0 t.1.1.0.1 in
    let e4 : layout_at v 4 ≡ lay (kind.Index plain) 0 = laid i.1.0.0 (i.1.0.1.2 ∙ no_reals entries_table i.1.0.1.0 (1 ∷ 2 ∷ []) i.1.0.1.1 refl) in
    let e5 : layout_at v 5 ≡ lay kind.Table 0 = laid t.1.1.1.0.0 t.1.1.1.0.1 in
    let e6 : layout_at v 6 ≡ lay (kind.Index plain) 0 = laid i.1.1.0.0 (i.1.1.0.1.2 ∙ no_reals props_table i.1.1.0.1.0 (1 ∷ 2 ∷ 3 ∷ []) i.1.1.0.1.1 refl) in
    sym (map-map at rowid rows) ∙ ap (map at) are ∙ rw (e0, e1, e2, e3, e4, e5, e6) refl

module _ (size : ℕ) (image : Image) (pages : PageMap) (found : Recovers size image pages) (wanted : List Wanted) (rows : List Row) (read : rows ≡ map unrooted (rows_at size (in_use size pages) kind.Table 1)) (numbered : map rowid rows ≡ ids)
    (listed : listed_from 0 wanted ≡ joined rows layouts) where
  pub fits_of : (runs : List Run) (db : Trees) → HoldsAt size image db → IsSchema2Of runs db → IsOurs size true wanted pages × (db ≡ file_trees size wanted pages)
  fits_of runs db held keeps =
      let same = recovers_once size image held.pages pages held.found found in
      let m = meets held in
      let are : rows ≡ map unrooted (rows_at size (in_use size held.pages) kind.Table 1) = read ∙ ap (λ p. map unrooted (rows_at size (in_use size p) kind.Table 1)) (sym same) in
      let lists : Lists (db catalog_tree) schema_2 = subst (λ s. Lists (db catalog_tree) s) keeps.3.schema (subst (λ (t : Trees). Lists (t catalog_tree) keeps.0.schema) (sym keeps.2) keeps.1.lists) in
      let schema : held.schema ≡ schema_2 = lists_once (db catalog_tree) held.schema schema_2 held.sound.lists lists in
      let laid : map (layout_of m.shown) rows ≡ layouts = layouts_are m.shown rows (subst (AreShaped m.shown) schema m.knows) numbered in
      let whole : joined rows layouts ≡ listed_from 0 held.wanted = ap₂ joined are (sym laid ∙ ap (map (layout_of m.shown)) are) ∙ m.whole in
      let r = same_file size held.wanted wanted held.pages (listed ∙ whole) held.ours in
      subst (λ p. IsOurs size true wanted p × (db ≡ file_trees size wanted p)) same (r.0, held.reads ∙ ap (λ x. with_version x (version_in held.pages)) (sym r.1))

-- pages without checksums need none in the log
pub without_sums : (size : ℕ) (image : Image) (db : Trees) → size % 16 ≢ 8 → HoldsIn size image db → HoldsAt size image db
without_sums size image db plain held =
    record { pages = held.pages; wanted = held.wanted; schema = held.schema; found = plain_adopts size image held.pages plain held.found; ours = held.ours; reads = held.reads; sound = held.sound }

pub ordered_of : (runs : List Run) → AllByRecursion IsValidRun runs → AreOrdered runs
ordered_of [] each = tt
ordered_of (r ∷ runs) each = (each.0.ordered, ordered_of runs each.1)

-- a store that was opened over a file and then read represents the runs of the file
pub opens_runs : {D : Type 0} {g : Ghosts D} (image : Image) (old new : FileStore D g) → OnlyReadsStore over_files old new → (view old).trees ≡ (view old).committed → (IsClean (view old) → (view old).is_broken ≡ false) → (IsClean (view old) → OpensOver image old) → OpensRuns image new
opens_runs image old new looks settled unbroken opens = record {
  stands = λ runs h. (
    λ opened.
        let clean = clean_if_open (view new) (shut_if_dirty_at new) opened in
        let held = looks.held clean opened in
        subst (IsSchema2Of runs) (settled ∙ sym held.1) ((opens (looks.clean clean)).holds runs h (unbroken (looks.clean clean))),
    h.2.3.valid.numbered,
    λ clean. ordered_of runs h.2.3.valid.each,
  );
  leaves = λ runs h clean trees found. (opens (looks.clean clean)).leaves runs h trees (looks.outcomes trees found);
}

-- ---- the results attached to a file have the runs that the file held

same_database : (P : Database → Type 0) (s t : Schema) (a b : Trees) → s ≡ t → a ≡ b → P (record { schema = s; trees = a }) → P (record { schema = t; trees = b })
same_database P s t a b same equal has = subst (λ x. P (record { schema = t; trees = x })) equal (subst (λ x. P (record { schema = x; trees = a })) same has)

pub taken_by : {S E : Type 0} (g : StoreGhosts S) (conn results : Held S) (made : Result S E) → ((was : InitialDatabase) → Describes was (state g conn) → AttachSucceeds was (state g conn) (state g results))
    → IfOk made (λ s. (runs : List Run) → StandsFor (state g results) runs → HasCommitted (g.view s) runs) → IfOk made (IsConvertedFrom g results) → IfOk made (IsAttached g conn)
taken_by g conn results (Ok store) takes stands from = (results, takes, stands, from.earlier, from.crash, from.numbered)
taken_by g conn results (Err fault) takes stands from = tt

-- the results of a connection were attached and not converted
pub not_taken : {S T : Type 0} (g : StoreGhosts S) (conn results : Held S) (made : Result T (StoreFault × S)) → ((was : InitialDatabase) → Describes was (state g conn) → AttachSucceeds was (state g conn) (state g results))
    → IfErr made (λ e. IsDatabaseFault e.0) → IfErr made (λ e. IsConvertedFrom g results e.1) → IfErr made (λ e. FailsToAttach g conn e.0 e.1)
not_taken g conn results (Ok store) takes failed from = tt
not_taken g conn results (Err e) takes failed from = (results, from, inr (takes, failed))

pub taken_files : {D E : Type 0} {g : Ghosts D} (conn : Held (FileStore D g)) (made : Result (FileStore D g) E) → IfOk made (IsAttached over_files conn) → IfOk made (IsAttachedFiles conn)
taken_files conn (Ok store) (results, takes, stands, earlier, crash, numbered) = (results, takes, record { stands = stands; earlier = earlier; crash = crash; numbered = numbered })
taken_files conn (Err fault) taken = tt

-- files that were read hold the database that they held
pub held_still : {old new : Image} → IsReadAs old new → (db : Trees) → HoldsDatabase old db → HoldsDatabase new db
held_still unchanged db held = held
held_still (recovered new size pages unsummed found again sized) db held =
    let at = without_sums size _ db unsummed (subst (λ n. HoldsIn n _ db) (sized db held) held.2) in
    let same = recovers_once size _ at.pages pages at.found found in
    let adopted = adopts_of size new at.pages (subst (Recovers size new) (sym same) again) in
    (size, subst (λ n. IsPageSize (stored_size n)) (sized db held) held.1, record { pages = at.pages; wanted = at.wanted; schema = at.schema; found = adopted; ours = at.ours; reads = at.reads; sound = at.sound })

-- files that were only read are left
pub left_read : {D : Type 0} (g : Ghosts D) (old new : Files D) → OnlyReads g old.log new.log → OnlyReads g old.db new.db → IsOnlyRead g old new
left_read g old new log db = record {
  log = log.usable;
  db = db.usable;
  read = λ clean. (both_clean _ _ _ _ log.clean db.clean clean, subst (IsReadAs (image_of g old)) (sym (same_image log db)) unchanged);
  crash = λ clean after may. inl (log.crash after.log may.0, db.crash after.db may.1);
}

-- files that were only read once more are left
pub left_more : {D : Type 0} (g : Ghosts D) (old mid new : Files D) → OnlyReads g old.log mid.log → OnlyReads g old.db mid.db → OnlyReads g mid.log new.log → OnlyReads g mid.db new.db → IsOnlyRead g old new
left_more g old mid new log db log_again db_again = record {
  log = log_again.usable;
  db = db_again.usable;
  read = λ clean.
      let early = both_clean _ _ _ _ log_again.clean db_again.clean clean in
      (both_clean _ _ _ _ log.clean db.clean early, subst (IsReadAs (image_of g old)) (sym (same_image log_again db_again ∙ same_image log db)) unchanged);
  crash = λ clean after may. inl (log.crash after.log (log_again.crash after.log may.0), db.crash after.db (db_again.crash after.db may.1));
}

-- a connection over files that were only read shows the database that the files held
pub of_file : {D : Type 0} {g : Ghosts D} (old left : Files D) (conn : Held (FileStore D g)) → IsOnlyRead g old left → (HasCleanDisk (file_state conn) → IsOpened conn × FindsFiles left conn) → IsConnectionTo (image_of g old) conn
of_file {D} {g} old left conn was over clean =
    let it = over clean in
    (it.0, (image_of g left, (was.read it.1.honest).1, record { holds = it.1.holds; reads = it.1.reads }))

module _ {D : Type 0} {g : Ghosts D} (image : Image) where
  -- a connection over the file shows the database of the file
  held_settled : (P : Database → Type 0) (conn : Held (FileStore D g)) → IsConnectionTo image conn → (db : Trees) → ∥ HoldsDatabase image db ∥₁ → (held : Database) → IsDatabase held → db ≡ held.trees → P held → IsSettledWhileOpen P (file_state conn)
  held_settled P conn over db found held sound trees has clean opened =
      let it = over clean in
      let s = file_state conn in
      let (read, as_read, finds) = it.1 in
      let same : held.trees ≡ s.committed.trees = sym trees ∙ ∥∥₁_elim found (Trees-set _ _) (λ it_is. sym (finds.holds db (held_still as_read db it_is))) in
      let lists : Lists (s.committed.trees catalog_tree) held.schema = subst (λ (t : Trees). Lists (t catalog_tree) held.schema) same sound.lists in
      let schema : held.schema ≡ s.committed.schema = lists_once (s.committed.trees catalog_tree) held.schema s.committed.schema lists (it.0.1 opened).1.lists in
      record {
        autocommit = it.0.0.autocommit;
        settled = sym it.0.0.clean;
        tables = subst P (sym it.0.0.clean) (same_database P held.schema s.committed.schema held.trees s.committed.trees schema same has);
      }

  -- a connection over the file represents these runs
  pub held_stands : (conn : Held (FileStore D g)) → IsConnectionTo image conn → (runs : List Run) → HoldsRuns image runs → StandsFor (file_state conn) runs
  held_stands conn over runs (db, found, (held, sound, trees, tables)) = held_settled (λ d. IsSchema2Database d runs) conn over db found held sound trees tables

  -- a connection over a file of schema 1 represents its runs
  pub held_older : (conn : Held (FileStore D g)) → IsConnectionTo image conn → (runs : List Run) → HoldsInSchema1 image runs → RepresentsInSchema1 (file_state conn) runs
  held_older conn over runs (db, found, (held, sound, trees, tables), unlisted) = held_settled (λ d. IsSchema1Database d runs) conn over db found held sound trees tables

  -- the store of the attached results represents these runs
  pub opens_of : (results : Held (FileStore D g)) (store : FileStore D g) → AreResultsOf image results → IsConvertedStore results store → OpensRuns image store
  opens_of results store over follows =
      let taken = λ (runs : List Run) (h : HoldsRuns image runs). over.2 (Schema2 runs) (held_stands over.0 over.1 runs h) in
      record {
        stands = λ runs h. (follows.stands runs (taken runs h).0, h.2.3.valid.numbered, λ clean. ordered_of runs h.2.3.valid.each);
        leaves = λ runs h clean trees found. (taken runs h).1 (follows.earlier clean) trees (follows.crash trees found);
      }

  pub found_of : {E : Type 0} (conn : Held (FileStore D g)) (made : Result (FileStore D g) E) → IsConnectionTo image conn → IfOk made (IsAttachedFiles conn) → IfOk made (RepresentsImage image)
  found_of conn (Ok store) over (results, takes, follows) =
      let taken : AreResultsOf image results = (conn, over, takes) in
      record { held = opens_of results store taken follows; whose = inr (results, taken, follows); numbered = λ clean must. follows.numbered clean }
  found_of conn (Err fault) over taken = tt
