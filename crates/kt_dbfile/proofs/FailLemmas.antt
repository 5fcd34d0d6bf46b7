-- A failed open leaves files with the runs that they had.
use Rattle.kt_dbfile.proofs.Common.{AreClean, Bool, Schema2, FileStore, HasCleanDisk, HasSchemaNumber, HasTrees, Held, HoldsDatabase, HoldsIn, HoldsRuns, Image, IsClean, IsDatabaseFault, IsTrue, IsSchema2Of, List, OnlyReadsStore, OpensOver, Run, StoreFault, Trees, [], ap₂, arith, clean_is, cond, false, file_state, image, image_of, inl, inr, may_leave_is, no_doubt, outcomes, over_files, pool_files, pos, state_of, subst, subst₂, sym, true, true≢false, view, ℕ, ℤ, ∥∥₁_elim, ∥∥₁_map, ◌%◌, ◌∙◌, ◌∷◌, ◌≡◌, ◌≢◌, ◌⊎◌}
use Rattle.kt_dbfile.proofs.OpeningLemmas.{held_older, held_stands, held_still, without_sums}
use Rattle.kt_dbfile.proofs.ReopenLemmas.{database_of, holds, left_of}
use Rattle.kt_dbfile.specs.FailedOpen.{Contains, FailsToOpen, HoldsAsBefore, HoldsInSchema1, KeepsRunsOfFiles}
use Rattle.kt_dbfile.specs.Inner.Opening.{FailsToAttach, HasOtherSchema, LeavesAsBefore, RecoversAsBefore}
use Rattle.kt_store.specs.Attaching.{Schema1}
use Rattle.kt_store.specs.Files.{IsConnectionTo, MustBeChecked, recovered}
use Rattle.kt_store.specs.Runs.{IsAnySchemaOf}
use Rattle.kt_store.specs.TrustedContents.{ListsTables}
use Rattle.sqlite.specs.declared.file.Leftover.{Leftover}
use Rattle.sqlite_disk.specs.Events.{Event, replay, settled}
use Rattle.sqlite_disk.specs.History.{MayLeave}
use Rattle.sqlite_disk.specs.declared.Disk.{Ghosts}
use Rattle.sqlite_disk.specs.declared.Files.{Files}
use Rattle.sqlite_pool.specs.Stored.{RecoversAs}
use Rattle.sqlite_pool.specs.StoredLaws.{RecoversAs-from, carried}
use Rattle.sqlite_store.specs.FileStore.{files, recovers}
use Rattle.sqlite_store.specs.Unopened.{Opens, files_of}
use Rattle.sqlite_store.specs.declared.store.open.Unopened.{Unopened}

-- files that contain the same databases have the same runs
pub keeps_still : (before after : Image) → HoldsAsBefore before after → KeepsRunsOfFiles before after
keeps_still before after same = record {
  current = λ runs h. ∥∥₁_map h.1 (λ held. (h.0, inl (same h.0 held), h.2));
  checked = λ runs h must. ∥∥₁_map h.1 (λ held. (h.0, same h.0 held, h.2));
  older = λ runs h. ∥∥₁_map h.1 (λ held. (h.0, same h.0 held, inl h.2));
}

-- files that recover as before contain the same databases
pub recovered_holds : (size : ℕ) (before after : Image) → size % 16 ≢ 8 → RecoversAs size before after → ((db : Trees) (held : HoldsDatabase before db) → held.0 ≡ size) → HoldsAsBefore before after
recovered_holds size before after plain same sized db held =
    let at = without_sums size before db plain (subst (λ n. HoldsIn n before db) (sized db held) held.2) in
    held_still (recovered after size at.pages plain at.found (carried size before after same at.pages at.found) sized) db held

-- files that recover as before, and whose open failed, recover as before or are left as they were
pub spares_then : {D : Type 0} {g : Ghosts D} (fresh mid left : Unopened D g) → RecoversAsBefore fresh mid → Opens fresh (state_of mid) → Opens mid (state_of left)
    → (after : Image) → (state_of left).may_leave after → (state_of fresh).may_leave after ⊎ RecoversAs (state_of fresh).page_size (image fresh) after
spares_then fresh mid left again first second after may =
    let size = (state_of fresh).page_size in
    elim (second.crash after may).same [
      | inl was ↦ (first.crash after was).same
      | inr same ↦ inr (RecoversAs-from size (image fresh) after again.pages again.found (carried size (image mid) after (subst (λ n. RecoversAs n (image mid) after) first.size same) again.pages again.again))
    ]

-- a crash of files whose open failed leaves the same databases
pub left_unopened : {D : Type 0} {g : Ghosts D} (old : Files D) (fresh new : Unopened D g)
    → (IsTrue (state_of new).is_clean → (after : Image) → (state_of new).may_leave after → (state_of fresh).may_leave after ⊎ RecoversAs (state_of fresh).page_size (image fresh) after)
    → image fresh ≡ image_of g old → ((after : Image) → outcomes g (files_of fresh).0 (files_of fresh).1 after → outcomes g old.log old.db after)
    → (state_of fresh).page_size % 16 ≢ 8 → (IsTrue (state_of new).is_clean → (db : Trees) (held : HoldsDatabase (image_of g old) db) → held.0 ≡ (state_of fresh).page_size) → LeavesAsBefore g old (files_of new)
left_unopened {D} {g} old fresh new spares seen outs plain sized honest after may =
    let late : IsTrue (state_of new).is_clean = (pool_files new.pool).1 ∙ honest in
    elim (spares late after (may_leave_is new.pool after honest may)) [
      | inl was ↦ inl (outs after ((pool_files fresh.pool).2 after was))
      | inr same ↦ inr (recovered_holds (state_of fresh).page_size (image_of g old) after plain (subst (λ i. RecoversAs (state_of fresh).page_size i after) seen same) (sized late))
    ]

weaker : (n : Bool) (trees : Trees) (after : Image) → HasTrees n trees after → HasTrees false trees after
weaker n trees after has = record {
  size = has.size;
  pages = has.pages;
  wanted = has.wanted;
  allowed = has.allowed;
  found = has.found;
  file = ∥∥₁_map has.file (λ ours. record { file = ours.file; numbered = λ none. absurd (true≢false (sym none)) });
  reads = has.reads;
}

-- the tables have one schema number
number_once : (n m : ℤ) (trees : Trees) → HasSchemaNumber n trees → HasSchemaNumber m trees → n ≡ m
number_once n m trees a b = let both = sym a ∙ b in cc

module _ {D : Type 0} {g : Ghosts D} (before : Image) where
  module _ (store left : FileStore D g) (looks : OnlyReadsStore over_files store left) (opens : IsClean (view store) → OpensOver before store) (lists : IsClean (view store) → ListsTables before) where
    -- a store of schema 2 that was only read leaves its runs
    pub kept_by_reads : (IsClean (view store) → MustBeChecked before → IsTrue (view store).is_numbered) → AreClean g (files left).0 (files left).1 → (after : Image) → outcomes g (files left).0 (files left).1 after → KeepsRunsOfFiles before after
    kept_by_reads tested honest after may =
        let late : IsClean (view left) = no_doubt _ (clean_is left.pool ∙ honest) in
        let clean = looks.clean late in
        let found = left_of left after (may_leave_is left.pool after honest may) in
        let keeps = λ (runs : List Run) (h : HoldsRuns before runs) (trees : Trees) (it : recovers left trees). (opens clean).leaves runs h trees (looks.outcomes trees it) in
        record {
          current = λ runs h. ∥∥₁_map found (λ it. (it.0, inr (weaker _ it.0 after it.2), keeps runs h it.0 it.1));
          checked = λ runs h must. ∥∥₁_elim found squash₁ (λ it.
              let held = holds after _ it.0 it.2 (subst IsTrue (sym looks.schema.numbered) (tested clean must)) runs (keeps runs h it.0 it.1) in
              ∥∥₁_map held.1 (λ x. (held.0, x, held.2)));
          older = λ runs h. absurd (h.3 (lists clean));
        }

    -- the schema number of files with runs is known
    pub known_by_reads : (fault : StoreFault) → (IsClean (view store) → (view store).is_broken ≡ false) → IsDatabaseFault fault ⊎ ((fault ≡ StoreFault.UnknownSchema) × (IsClean (view left) → HasOtherSchema (view store).trees))
        → AreClean g (files left).0 (files left).1 → (runs : List Run) → HoldsRuns before runs ⊎ HoldsInSchema1 before runs → IsDatabaseFault fault
    known_by_reads fault unbroken (inl failed) honest runs h = failed
    known_by_reads fault unbroken (inr (is, other)) honest runs (inl h) =
        let late : IsClean (view left) = no_doubt _ (clean_is left.pool ∙ honest) in
        let clean = looks.clean late in
        let (db, sound, trees, tables) = (opens clean).holds runs h (unbroken clean) in
        let it = other late in
        absurd (it.1 (number_once it.0 (pos 2) (view store).trees it.2 (subst (HasSchemaNumber (pos 2)) (sym trees) tables.marked)))
    known_by_reads fault unbroken (inr (is, other)) honest runs (inr h) =
        let late : IsClean (view left) = no_doubt _ (clean_is left.pool ∙ honest) in
        absurd (h.3 (lists (looks.clean late)))

  -- a connection whose tables were not attached leaves the runs of its file
  module _ (conn : Held (FileStore D g)) (over : IsConnectionTo before conn) (fault : StoreFault) (store : FileStore D g) (failed : FailsToAttach over_files conn fault store) (honest : AreClean g (files store).0 (files store).1) where
    late : IsClean (view store)
    late = no_doubt _ (clean_is store.pool ∙ honest)

    clean : HasCleanDisk (file_state failed.0)
    clean = failed.1.earlier late

    leaves_current : (runs : List Run) → HoldsRuns before runs → (trees : Trees) → recovers store trees → IsSchema2Of runs trees
    leaves_current runs h trees may =
        let was = held_stands before conn over runs h in
        let end = failed.1.crash trees may in
        let late = clean in
        elim failed.2 [
          | inl fails ↦
              let it = fails (Schema2 runs) was in
              let survives = it.1.clean in
              let old : HasCleanDisk (file_state conn) = omega (arith, survives, late) in
              it.3 (over old).0.0.is_open late trees end
          | inr takes ↦ (takes.0 (Schema2 runs) was).1 late trees end
        ]

    leaves_older : (runs : List Run) → HoldsInSchema1 before runs → (trees : Trees) → recovers store trees → IsAnySchemaOf runs trees
    leaves_older runs h trees may =
        let was = held_older before conn over runs h in
        let end = failed.1.crash trees may in
        let late = clean in
        elim failed.2 [
          | inl fails ↦
              let it = fails (Schema1 runs) was in
              let survives = it.1.clean in
              let old : HasCleanDisk (file_state conn) = omega (arith, survives, late) in
              it.3 (over old).0.0.is_open late trees end
          | inr takes ↦ inr ((takes.0 (Schema1 runs) was).1 late trees end)
        ]

    pub known_by_attach : (runs : List Run) → HoldsRuns before runs ⊎ HoldsInSchema1 before runs → IsDatabaseFault fault
    known_by_attach runs (inl h) = elim failed.2 [ inl fails ↦ (fails (Schema2 runs) (held_stands before conn over runs h)).2 clean | inr takes ↦ takes.1 ]
    known_by_attach runs (inr h) = elim failed.2 [ inl fails ↦ (fails (Schema1 runs) (held_older before conn over runs h)).2 clean | inr takes ↦ takes.1 ]

    module _ (after : Image) (may : outcomes g (files store).0 (files store).1 after) where
      contains : (P : Trees → Type 0) → ((trees : Trees) → recovers store trees → P trees) → Contains after P
      contains P all = ∥∥₁_elim (left_of store after (may_leave_is store.pool after honest may)) squash₁ (λ it.
          let sound = failed.1.sound late it.0 it.1 in
          ∥∥₁_map (database_of after _ it.0 it.2 (failed.1.numbered late) sound.0 sound.1) (λ held. (it.0, held, all it.0 it.1)))

      pub kept_by_attach : KeepsRunsOfFiles before after
      kept_by_attach = record {
        current = λ runs h. ∥∥₁_map (contains (IsSchema2Of runs) (leaves_current runs h)) (λ it. (it.0, inl it.1, it.2));
        checked = λ runs h must. contains (IsSchema2Of runs) (leaves_current runs h);
        older = λ runs h. contains (IsAnySchemaOf runs) (leaves_older runs h);
      }

-- ---- the first contents

settled_leaves : (mixes : Bool) (start : List ℕ) (key : ℕ) (c : List ℕ) → MayLeave mixes (replay start (settled key ∷ [])).seen (replay start (settled key ∷ [])).synced (replay start (settled key ∷ [])).steps c → c ≡ start
settled_leaves mixes start key c (inl it) = it
settled_leaves mixes start key c (inr it) = it

-- a crash leaves what a replayed file held
abbrev May : (mixes : Bool) (log db : List ℕ) → Bool → List Event → List ℕ → Type 0
May mixes log db is_log history = MayLeave mixes (replay (cond is_log log db) history).seen (replay (cond is_log log db) history).synced (replay (cond is_log log db) history).steps

-- a crash leaves the contents of fresh files
pub as_left : (mixes : Bool) (log db : List ℕ) {a b : Bool} {x y : List Event} {j k : ℕ} → ((a ≡ true) × (x ≡ settled j ∷ [])) × ((b ≡ false) × (y ≡ settled k ∷ [])) → (after : Image) → May mixes log db a x after.log × May mixes log db b y after.db
    → ◌≡◌ {A = Image} after (record { log = log; db = db })
as_left mixes log db {a} {b} {x} {y} {j} {k} (p, q) after (m, n) =
    let one : after.log ≡ log = settled_leaves mixes log j after.log (subst₂ (λ t h. May mixes log db t h after.log) p.0 p.1 m) in
    let two : after.db ≡ db = settled_leaves mixes db k after.db (subst₂ (λ t h. May mixes log db t h after.db) q.0 q.1 n) in
    ap₂ (λ (l d : List ℕ). let r : Image = record { log = l; db = d } in r) one two

-- what was left before the open may be more
pub left_before : {D : Type 0} {g : Ghosts D} (was wider : Image → Type 0) (before : Image) (left : Leftover D g) (fault : StoreFault) → ((after : Image) → was after → wider after) → FailsToOpen was before left fault → FailsToOpen wider before left fault
left_before was wider before left fault more (inl leaves) = inl (record {
  kept = λ honest after may. elim (leaves.kept honest after may) [ inl it ↦ inl (more after it) | inr keeps ↦ inr keeps ];
  known = leaves.known;
})
left_before was wider before left fault more (inr (leaves, failed)) = inr (
  record {
    seen = leaves.seen;
    read = leaves.read;
    crash = λ honest after may. elim (leaves.crash honest after may) [ inl it ↦ inl (more after it) | inr same ↦ inr same ];
    left_of = leaves.left_of;
  },
  failed,
)
