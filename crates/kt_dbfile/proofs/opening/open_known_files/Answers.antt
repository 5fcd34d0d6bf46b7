use Rattle.kt_dbfile.proofs.Common.{HoldsAt, HoldsDatabase, HoldsIn, HoldsRuns, IsFile, IsSound, IsTrue, IsSchema2Of, ListsRuns, Recovers, Trees, Trees-set, ap, ap₂, are_clean, arith, clean_if_open, clean_of, cond-true, file_trees, image, image_of, kept_schema, no_doubt, no_trees, pool_files, recovers_once, rules, same_image, schema_2, seen_image, settled_at, shut_if_dirty_at, state_of, subst, subst₂, sym, wanted_by, ∥∥₁_elim, ◌%◌, ◌∙◌, ◌≡◌, ◌≢◌}
use Rattle.sqlite_wal.proofs.CleanLemmas.{both_clean}
use Rattle.sqlite_wal.specs.Reads.{AreClean}
use Rattle.kt_store.specs.Files.{MustBeChecked, recovered}
use Rattle.kt_dbfile.proofs.EditLemmas.{sound_in}
use Rattle.sqlite_store.specs.FileStore.{state, view}
use Rattle.kt_dbfile.proofs.OpeningLemmas.{left_more, left_read, without_sums}
use Rattle.kt_dbfile.proofs.FailLemmas.{left_unopened, spares_then}
use Rattle.kt_dbfile.proofs.Common.{Image, outcomes, ◌⊎◌}
use Rattle.sqlite_pool.specs.Stored.{RecoversAs}
use Rattle.kt_dbfile.specs.Inner.Opening.{IsOnlyRead, LeavesAsBefore}
use Rattle.sqlite_store.specs.Unopened.{files_of}
use Rattle.sqlite_store.specs.declared.store.open.Unopened.{Unopened}
use Rattle.kt_dbfile.proofs.opening.open_known_files.Given.{Over}
use Rattle.kt_dbfile.proofs.opening.open_known_files.Goals.{In-Ok-list_schema, In-Ok-create_unopened_store}
use Rattle.kt_dbfile.proofs.opening.open_known_files.Goals as goal

-- the files recover as before, and list the tables
listed : (g : Over) (c : In-Ok-list_schema g) → IsTrue c.in-Ok-list_schema.is_listed → IsTrue (state_of c.list_schema.new.files).is_clean → ListsRuns c.in-Ok-create_unopened_store.fresh c.list_schema.new.files
listed g c = c.in-Ok-list_schema.ensures.lists

seen : (g : Over) (c : In-Ok-list_schema g) → image c.in-Ok-create_unopened_store.fresh ≡ image_of g.D.Disk c.args.files
seen g c = ap (λ f. seen_image g.D.Disk f.0 f.1) c.in-Ok-create_unopened_store.ensures.files ∙ same_image c.needs_full_check.ensures.log c.needs_full_check.ensures.db ∙ same_image c.page_size_without_checksums.ensures.log c.page_size_without_checksums.ensures.db

-- the files were read without a fault
early : (g : Over) (c : In-Ok-list_schema g) → IsTrue (state_of c.in-Ok-create_unopened_store.fresh).is_clean → AreClean g.D.Disk c.page_size_without_checksums.new.files.log c.page_size_without_checksums.new.files.db × AreClean g.D.Disk c.needs_full_check.new.files.log c.needs_full_check.new.files.db
early g c clean =
    let now = sym ((pool_files c.in-Ok-create_unopened_store.fresh.pool).1 ∙ ap (λ f. are_clean g.D.Disk f.0 f.1) c.in-Ok-create_unopened_store.ensures.files) ∙ clean in
    (both_clean _ _ _ _ c.needs_full_check.ensures.log.clean c.needs_full_check.ensures.db.clean now, now)

-- files whose open failed, or that list other tables
unread : (g : Over) (c : In-Ok-create_unopened_store g) (left : Unopened _ g.D.Disk) → (IsTrue (state_of left).is_clean → (after : Image) → (state_of left).may_leave after → (state_of c.in-Ok-create_unopened_store.fresh).may_leave after ⊎ RecoversAs (state_of c.in-Ok-create_unopened_store.fresh).page_size (image c.in-Ok-create_unopened_store.fresh) after)
    → (IsTrue (state_of left).is_clean → IsTrue (state_of c.in-Ok-create_unopened_store.fresh).is_clean) → LeavesAsBefore g.D.Disk c.args.files (files_of left)
unread g c left spares honest =
    let fresh = c.in-Ok-create_unopened_store.fresh in
    let made = c.in-Ok-create_unopened_store.ensures in
    let first = c.page_size_without_checksums.ensures in
    let second = c.needs_full_check.ensures in
    left_unopened c.args.files fresh left spares (ap (λ f. seen_image g.D.Disk f.0 f.1) made.files ∙ same_image second.log second.db ∙ same_image first.log first.db)
    (λ after may.
    let old = subst (λ f. outcomes g.D.Disk f.0 f.1 after) made.files may in
    (first.log.crash after.log (second.log.crash after.log old.0), first.db.crash after.db (second.db.crash after.db old.1)))
    (λ summed. omega (arith, summed, made.size, c.in-Some.size.aligned))
    (λ clean db held.
    let now = sym ((pool_files fresh.pool).1 ∙ ap (λ f. are_clean g.D.Disk f.0 f.1) made.files) ∙ honest clean in
    c.in-Some.ensures.size (both_clean _ _ _ _ second.log.clean second.db.clean now) db held ∙ sym made.size)

-- the database that the files held, in pages without checksums
held : (g : Over) (c : In-Ok-list_schema g) → IsTrue (state_of c.list_schema.new.files).is_clean → (db : Trees) → HoldsDatabase (image_of g.D.Disk c.args.files) db → HoldsAt (state_of c.in-Ok-create_unopened_store.fresh).page_size (image c.in-Ok-create_unopened_store.fresh) db
held g c now db found =
    let fresh = c.in-Ok-create_unopened_store.fresh in
    let made = c.in-Ok-create_unopened_store.ensures in
    let size = (state_of fresh).page_size in
    let clean = (early g c (c.in-Ok-list_schema.ensures.read now).honest).0 in
    let plain : size % 16 ≢ 8 = λ summed. omega (arith, summed, made.size, c.in-Some.size.aligned) in
    without_sums size (image fresh) db plain (subst₂ (λ n i. HoldsIn n i db) (c.in-Some.ensures.size clean db found ∙ sym made.size) (sym (seen g c)) found.2)

pub returns-in-Ok-open_sound_files-clause-opens : goal.returns-in-Ok-open_sound_files-clause-opens
returns-in-Ok-open_sound_files-clause-opens g c clean =
    let at = (goal.at.returns-in-Ok-open_sound_files-clause-opens g c).In-Ok-list_schema in
    let start = image_of g.D.Disk c.args.files in
    let store = c.in-Ok-open_sound_files.store in
    let now = clean_of _ clean in
    let mid = c.list_schema.new.files in
    let it = c.in-Ok-open_sound_files.ensures in
    let ready = it.ready in
    let kept = it.kept in
    let lists = listed g at (search rules) (it.honest now) in
    let size = (state_of c.in-Ok-create_unopened_store.fresh).page_size in
    let same = recovers_once size (image mid) lists.pages (state store).committed lists.again (subst (λ n. Recovers n (image mid) (state store).committed) lists.size (it.found now)) in
    let listing : kept_schema store.saved store.schema.items ≡ wanted_by mid = ap (λ o. kept_schema o store.schema.items) ready.unaltered ∙ it.schema in
    let reads : (view store).trees ≡ file_trees size (wanted_by mid) (state store).committed =
    ready.clean
    ∙ cond-true _ (file_trees (state store).page_size (kept_schema store.saved store.schema.items) (state store).committed) no_trees now
    ∙ ap₂ (λ n s. file_trees n s (state store).committed) ((kept now).size ∙ lists.size) listing in
    let opened = ready.is_open (no_doubt _ now) in
    let holds = λ (runs : _) (h : HoldsRuns start runs).
    let trees : (view store).trees ≡ h.0 = ∥∥₁_elim h.1 (Trees-set _ _) (λ found.
    reads ∙ ap (λ p. file_trees size (wanted_by mid) p) (sym same) ∙ sym (lists.fits runs h.0 (held g at (it.honest now) h.0 found) h.2).1) in
    subst (IsSchema2Of runs) (sym trees) h.2 in
    record {
      holds = λ runs h sound. holds runs h;
      leaves = λ runs h trees found. subst (IsSchema2Of runs) (sym (settled_at store g.met.D.Disk.seen_may_stay trees opened found ∙ sym ready.clean)) (holds runs h);
    }

-- files that hold runs have a sound file
pub open_sound_files-requires-clause-sound : goal.open_sound_files-requires-clause-sound
open_sound_files-requires-clause-sound g c now =
    let at = (goal.at.open_sound_files-requires-clause-sound g c).In-Ok-list_schema in
    let mid = c.list_schema.new.files in
    let size = (state_of c.in-Ok-create_unopened_store.fresh).page_size in
    let lists = listed g at (search rules) now in
    let (runs, db, found, keeps) = c.requires.held size lists.pages (subst (λ i. Recovers size i lists.pages) (seen g at) lists.found) lists.lists in
    let ours = (lists.fits runs db (held g at now db found) keeps).0 in
    (lists.pages, subst (λ n. Recovers n (image mid) lists.pages) (sym lists.size) lists.again, subst (λ n. IsFile n (wanted_by mid) lists.pages) (sym lists.size) ours.file)

-- the sound file obeys the schema
pub returns-in-Ok-open_sound_files-clause-sound : goal.returns-in-Ok-open_sound_files-clause-sound
returns-in-Ok-open_sound_files-clause-sound g c opens =
    let at = (goal.at.returns-in-Ok-open_sound_files-clause-sound g c).In-Ok-list_schema in
    let store = c.in-Ok-open_sound_files.store in
    let loose = clean_if_open (view store) (shut_if_dirty_at store) opens in
    let ready = c.in-Ok-open_sound_files.ensures.ready in
    let size = (state_of c.in-Ok-create_unopened_store.fresh).page_size in
    let lists = listed g at (search rules) (c.in-Ok-open_sound_files.ensures.honest (clean_of _ loose)) in
    let all = c.requires.held size lists.pages (subst (λ i. Recovers size i lists.pages) (seen g at) lists.found) lists.lists in
    subst (IsSound schema_2) ready.clean (sound_in all.0 (view store).trees ((returns-in-Ok-open_sound_files-clause-opens g c loose).holds all.0 (all.1, ∣ all.2 ∣₁, all.3) (ready.sound loose)))

-- the files recover to pages that list the tables
pub returns-in-Ok-open_sound_files-clause-lists : goal.returns-in-Ok-open_sound_files-clause-lists
returns-in-Ok-open_sound_files-clause-lists g c clean =
    let at = (goal.at.returns-in-Ok-open_sound_files-clause-lists g c).In-Ok-list_schema in
    let size = (state_of c.in-Ok-create_unopened_store.fresh).page_size in
    let lists = listed g at (search rules) (c.in-Ok-open_sound_files.ensures.honest (clean_of _ clean)) in
    (size, lists.pages, subst (λ i. Recovers size i lists.pages) (seen g at) lists.found, lists.lists)

-- the store is numbered if its trees were checked
pub returns-in-Ok-open_sound_files-clause-tested : goal.returns-in-Ok-open_sound_files-clause-tested
returns-in-Ok-open_sound_files-clause-tested g c clean must =
    let at = (goal.at.returns-in-Ok-open_sound_files-clause-tested g c).In-Ok-list_schema in
    let fresh = (c.in-Ok-list_schema.ensures.read (c.in-Ok-open_sound_files.ensures.honest (clean_of _ clean))).honest in
    let tested = c.in-Ok.ensures.tested (early g at fresh).1 (subst MustBeChecked (sym (same_image c.page_size_without_checksums.ensures.log c.page_size_without_checksums.ensures.db)) must) in
    c.in-Ok-open_sound_files.ensures.tested tested

-- files that list other tables were only read
pub returns-in_default-clause-back : goal.returns-in_default-clause-back
returns-in_default-clause-back g c = left_read g.D.Disk c.args.files c.page_size_without_checksums.new.files c.page_size_without_checksums.ensures.log c.page_size_without_checksums.ensures.db

pub returns-in-Err-create_unopened_store-clause-back : goal.returns-in-Err-create_unopened_store-clause-back
returns-in-Err-create_unopened_store-clause-back g c =
    subst (IsOnlyRead g.D.Disk c.args.files) (sym c.in-Err-create_unopened_store.ensures.back)
    (left_more g.D.Disk c.args.files c.page_size_without_checksums.new.files c.needs_full_check.new.files c.page_size_without_checksums.ensures.log c.page_size_without_checksums.ensures.db c.needs_full_check.ensures.log c.needs_full_check.ensures.db)

pub returns-then-not-is_listed-clause-back : goal.returns-then-not-is_listed-clause-back
returns-then-not-is_listed-clause-back g c =
    let at = (goal.at.returns-then-not-is_listed-clause-back g c).In-Ok-list_schema in
    let fresh = c.in-Ok-create_unopened_store.fresh in
    let new = c.list_schema.new.files in
    let size = (state_of fresh).page_size in
    let usable = c.in-Ok-list_schema.ensures.usable in
    record {
      log = subst (λ f. IsTrue (g.D.Disk.is_usable f.0)) (sym c.close.ensures) usable.0;
      db = subst (λ f. IsTrue (g.D.Disk.is_usable f.1)) (sym c.close.ensures) usable.1;
      read = λ clean.
          let late = (pool_files new.pool).1 ∙ sym (ap (λ f. are_clean g.D.Disk f.0 f.1) c.close.ensures) ∙ clean in
          let again = c.in-Ok-list_schema.ensures.read late in
          let mid = (early g at again.honest).0 in
          let plain : size % 16 ≢ 8 = λ summed. omega (arith, summed, c.in-Ok-create_unopened_store.ensures.size, c.in-Some.size.aligned) in (
            both_clean _ _ _ _ c.page_size_without_checksums.ensures.log.clean c.page_size_without_checksums.ensures.db.clean mid,
            recovered _ size again.pages plain (subst (λ i. Recovers size i again.pages) (seen g at) again.found)
                (subst (λ i. Recovers size i again.pages) (sym (ap (λ f. seen_image g.D.Disk f.0 f.1) c.close.ensures)) again.again)
                (λ db held. c.in-Some.ensures.size mid db held ∙ sym c.in-Ok-create_unopened_store.ensures.size),
          );
      crash = subst (LeavesAsBefore g.D.Disk c.args.files) (sym c.close.ensures) (unread g (goal.at.returns-then-not-is_listed-clause-back g c).In-Ok-create_unopened_store new (λ clean after may. ((c.list_schema.ensures.kept clean).crash after may).same) c.list_schema.ensures.honest);
    }

-- a failed call leaves files that were only read
pub returns-in-Err-list_schema-clause-left : goal.returns-in-Err-list_schema-clause-left
returns-in-Err-list_schema-clause-left g c = unread g (goal.at.returns-in-Err-list_schema-clause-left g c).In-Ok-create_unopened_store c.list_schema.new.files (λ clean after may. ((c.list_schema.ensures.kept clean).crash after may).same) c.list_schema.ensures.honest

pub returns-in-Err-open_sound_files-clause-left : goal.returns-in-Err-open_sound_files-clause-left
returns-in-Err-open_sound_files-clause-left g c =
    let mid = c.list_schema.ensures in
    let end = c.in-Err-open_sound_files.ensures in
    unread g (goal.at.returns-in-Err-open_sound_files-clause-left g c).In-Ok-create_unopened_store c.in-Err-open_sound_files.left
    (λ clean. spares_then c.in-Ok-create_unopened_store.fresh c.list_schema.new.files c.in-Err-open_sound_files.left (c.in-Ok-list_schema.ensures.read (end.falls clean)) (mid.kept (end.falls clean)) (end.unharmed clean)) (λ clean. mid.honest (end.falls clean))
