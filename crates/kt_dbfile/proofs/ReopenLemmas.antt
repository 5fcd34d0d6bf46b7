-- A close leaves files that meet the conditions of an open.
use Rattle.kt_dbfile.proofs.Common.{AreClean, Bool, OpensAndCloses, FailsToClose, FileStore, HasCommitted, HasTrees, HoldsDatabase, HoldsRuns, Image, IsTrustedImage, IsSound, IsTrue, IsSchema2Of, IsSchema2OfOne, List, Recovers, Run, Schema, StaysNumbered, Trees, [], adopts_of, ap, clean_if_open, file_alone, file_trees, inl, inr, kept_schema, outcomes, refl, schema_2, settled, settled_at, shut_if_dirty_at, size_is_allowed, subst, sym, ◌∙◌, ◌∷◌, ◌≡◌, ∥∥₁_elim, ∥∥₁_map}
use Rattle.kt_base.specs.Chains.{Chain}
use Rattle.kt_store.specs.StoreCalls.{StoreCall}
use Rattle.sqlite_disk.specs.declared.Disk.{Ghosts}
use Rattle.sqlite_wal.proofs.LogLemmas.{SeenMayStay}
use Rattle.sqlite_wal.proofs.StateLemmas.{clean_of}
use Rattle.sqlite_store.specs.FileStore.{files, state, view, log_frames, recovers, schema_in}
use Rattle.sqlite_store.specs.Listing.{IsOurs}
use Rattle.kt_dbfile.proofs.EditLemmas.{sound_in}

module _ {D : Type 0} {g : Ghosts D} (it : FileStore D g) where
  -- an open store without frames in its log has its last commit in the database file
  module _ (stays : SeenMayStay g) (is_open : IsTrue (view it).is_open) where
    committed_in : (image : Image) → Recovers (state it).page_size image (state it).committed → HasTrees (view it).is_numbered (view it).committed image
    committed_in image found = record {
      size = (state it).page_size;
      pages = (state it).committed;
      wanted = kept_schema it.saved it.schema.items;
      allowed = size_is_allowed it.pool;
      found = found;
      file = ∥∥₁_map (it.stored is_open) (λ stored. stored.ours);
      reads = rw (clean_of (state it) is_open);
    }

    pub without_log_of : log_frames it ≡ 0 → (image : Image) → (state it).may_leave image
        → HasTrees (view it).is_numbered (view it).committed image × HasTrees (view it).is_numbered (view it).committed (record image { log = [] })
    without_log_of empty image may = (
      committed_in image ((settled it.pool stays is_open).durable image may),
      committed_in (record image { log = [] }) (file_alone it.pool stays is_open empty image may),
    )

  -- a crash leaves files with trees that it may leave
  pub left_of : (image : Image) → (state it).may_leave image → ∥ ((trees : Trees) × recovers it trees × HasTrees (view it).is_numbered trees image) ∥₁
  left_of image may = ∥∥₁_map it.safe (λ all.
      let found = all image may in
      let trees = file_trees (state it).page_size (schema_in it found.0) found.0 in (
        trees,
        (image, found.0, may, ∣ found.1 ∣₁, refl),
        record {
          size = (state it).page_size;
          pages = found.0;
          wanted = schema_in it found.0;
          allowed = size_is_allowed it.pool;
          found = found.1;
          file = found.2;
          reads = refl;
        },
      ))

-- ---- a close leaves files that meet the conditions of an open

-- the assumption on opened files holds for files that hold runs
pub supposed : (image : Image) (runs : List Run) → HoldsRuns image runs → ∥ IsTrustedImage image ∥₁
supposed image runs (db, found, keeps) = ∥∥₁_map found (λ (it : HoldsDatabase image db). let r : IsTrustedImage image = λ size pages recovered lists. (runs, db, it, keeps) in r)

-- files with numbered trees that obey a schema contain them
pub database_of : (image : Image) (n : Bool) (trees : Trees) → HasTrees n trees image → IsTrue n → (schema : Schema) → IsSound schema trees → ∥ HoldsDatabase image trees ∥₁
database_of image n trees has numbered schema sound = ∥∥₁_elim has.allowed squash₁ (λ size. ∥∥₁_map has.file (λ ours. let r : HoldsDatabase image trees = (
  has.size,
  size,
  record {
    pages = has.pages;
    wanted = has.wanted;
    schema = schema;
    found = adopts_of _ image has.pages has.found;
    ours = subst (λ b. IsOurs has.size b has.wanted has.pages) numbered ours;
    reads = has.reads;
    sound = sound;
  },
) in r))

-- files with numbered trees that are those of runs hold the runs
pub holds : (image : Image) (n : Bool) (trees : Trees) → HasTrees n trees image → IsTrue n → (runs : List Run) → IsSchema2Of runs trees → HoldsRuns image runs
holds image n trees has numbered runs keeps = (trees, database_of image n trees has numbered schema_2 (sound_in runs trees keeps), keeps)

module _ {D : Type 0} {g : Ghosts D} where
  -- calls change nothing about the numbers of the trees
  numbered_through : (first : FileStore D g) (calls : List StoreCall) (last : FileStore D g) → Chain (λ (old : FileStore D g) (call : StoreCall) (new : FileStore D g). StaysNumbered (view old) (view new)) first calls last → IsTrue (view last).is_open
      → IsTrue (view first).is_open × ((view last).is_numbered ≡ (view first).is_numbered)
  numbered_through first [] last same opened = (subst (λ (s : FileStore D g). IsTrue (view s).is_open) same opened, ap (λ (s : FileStore D g). (view s).is_numbered) same)
  numbered_through first (call ∷ calls) last (mid, step, more) opened =
      let late = numbered_through mid calls last more opened in
      let early = step (clean_if_open (view mid) (shut_if_dirty_at mid) late.0) late.0 in
      (early.0, late.1 ∙ early.1)

  module _ (before : Image) (last : FileStore D g) (runs : List Run) (after : Image) (end : OpensAndCloses before last runs after) where
    opened : IsTrue (view last).is_open
    opened = end.ends.was_open end.honest

    numbered : IsTrue (view last).is_numbered
    numbered =
        let through = numbered_through end.first end.calls last end.called opened in
        let clean = clean_if_open (view end.first) (shut_if_dirty_at end.first) through.0 in
        let began : IsTrue (view end.first).is_numbered = elim end.opened.whose [
          | inl lists ↦ end.opened.numbered clean (end.checked (lists.lists clean))
          | inr attached ↦ attached.2.numbered clean
        ] in
        through.1 ∙ began

    pub held : HoldsRuns after runs × HoldsRuns (record after { log = [] }) runs
    held =
        let left = end.ends.left end.honest after end.outcome in
        let keeps = end.has opened in
        (holds after _ _ left.0 numbered runs keeps, holds (record after { log = [] }) _ _ left.1 numbered runs keeps)

-- a failed close that leaves its store open leaves files that hold the runs of the last commit
pub kept : {D : Type 0} {g : Ghosts D} (store left : FileStore D g) (runs : List Run) (after : Image) → SeenMayStay g → HasCommitted (view store) runs → IsTrue (view store).is_numbered → FailsToClose store left → StaysNumbered (view store) (view left)
    → IsTrue (view left).is_open → AreClean g (files left).0 (files left).1 → outcomes g (files left).0 (files left).1 after → HoldsRuns after runs
unfolding holds
kept store left runs after stays has was_numbered end same is_open honest outcome =
    let was = same (clean_if_open (view left) (shut_if_dirty_at left) is_open) is_open in
    let keeps : IsSchema2Of runs (view store).committed = has was.0 in (
      (view store).committed,
      ∥∥₁_elim (end.left honest after outcome) squash₁ (λ it.
          let last : it.0 ≡ (view store).committed = settled_at store stays it.0 was.0 it.1 in
          subst (λ t. ∥ HoldsDatabase after t ∥₁) last (holds after _ it.0 it.2 (was.1 ∙ was_numbered) runs (subst (IsSchema2Of runs) (sym last) keeps)).1),
      keeps,
    )

-- the runs of other trees are among the same lists
pub one_of : (may : List (List Run)) (trees others : Trees) → ((runs : List Run) → IsSchema2Of runs trees → IsSchema2Of runs others) → IsSchema2OfOne may trees → IsSchema2OfOne may others
one_of [] trees others same none = none
one_of (runs ∷ may) trees others same (inl keeps) = inl (same runs keeps)
one_of (runs ∷ may) trees others same (inr more) = inr (one_of may trees others same more)
