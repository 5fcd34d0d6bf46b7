use Rattle.kt_dbfile.proofs.Common.{IsTrue, Recovers, ap, image, in_use, joined, listed_from, map, schema_2_objects, refl, rowid, rows_at, seen_image, state_of, subst, sym, unrooted, wanted_by, ◌∙◌, ◌≡◌}
use Rattle.sqlite_pool.specs.Pool
use Rattle.sqlite_store.specs.Unopened.{Opens}
use Rattle.sqlite_trees.specs.declared.store.Shape.TheVariants.{Table}
use Rattle.kt_dbfile.proofs.OpeningLemmas.{ids, layouts, fits_of}
use Rattle.kt_dbfile.proofs.opening.list_schema.Goals as goal

pub returns-in-Ok-clause-lists : goal.returns-in-Ok-clause-lists
returns-in-Ok-clause-lists g c done late =
    let clean = sym (ap (λ p. (Pool.state p).is_clean) c.list_schema.ensures.files) ∙ late in
    let old = c.args.files.now in
    let size = (state_of old).page_size in
    let new = c.list_schema.new.self in
    let cat = c.in_ok-listed.ensures.ok clean in
    let rows = c.in_ok-rows.rows.items in
    let read : rows ≡ map unrooted (rows_at size (in_use size cat.pages) Table 1) = c.in_ok-rows.ensures ∙ ap (map unrooted) (c.as_slice.ensures.value ∙ cat.lists) in
    let objects : rows ≡ schema_2_objects = sym c.as_slice-2.ensures.value ∙ c.if-not-is_schema_2.ensures refl in
    let numbered : map rowid rows ≡ ids = ap (map rowid) objects in
    let listed : listed_from 0 (wanted_by new) ≡ joined rows layouts = (rw done at c.in-Ok.ensures.ok) ∙ ap (λ l. joined l layouts) c.as_slice-3.ensures.value in
    record {
      honest = c.read_catalog.ensures.honest clean;
      size = ap (λ p. (Pool.state p).page_size) c.list_schema.ensures.files ∙ (c.read_catalog.ensures.kept clean).size;
      pages = cat.pages;
      found = cat.found;
      lists = sym read ∙ objects;
      again = subst (λ p. Recovers size (seen_image g.D.Disk (Pool.files p).0 (Pool.files p).1) cat.pages) (sym c.list_schema.ensures.files) cat.again;
      fits = fits_of size (image old) cat.pages cat.found (wanted_by new) rows read numbered listed;
    }

-- ---- the list changes no file

pub returns-in-Ok-clause-honest : goal.returns-in-Ok-clause-honest
returns-in-Ok-clause-honest g c = subst (λ p. IsTrue (Pool.state p).is_clean → IsTrue (state_of c.args.files.now).is_clean) (sym c.list_schema.ensures.files) c.read_catalog.ensures.honest

pub returns-in-Ok-clause-kept : goal.returns-in-Ok-clause-kept
returns-in-Ok-clause-kept g c = subst (λ p. IsTrue (Pool.state p).is_clean → Opens c.args.files.now (Pool.state p)) (sym c.list_schema.ensures.files) c.read_catalog.ensures.kept
