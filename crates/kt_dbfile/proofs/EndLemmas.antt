-- The ends of calls that write the trees of a store: a commit or a rollback.
use Rattle.kt_dbfile.proofs.Common.{Agrees, Database, EndsTransaction, Err, Ghosts, HasCleanDisk, HasCommitted, HasRuns, Held, KeepsLastCommit, IsLive, IsSettledStore, IsSound, IsTrue, IsSchema2Of, IsSchema2OfOne, List, Lists, OnlyReadsStore, Ok, SurvivesCrash, Result, Run, Schema, Serves, StandsFor, StaysNumbered, StoreCall, StoreFault, Trees, WritesRows, ap, catalog_tree, runs_after, clean_if_open, false, inl, inr, is_err, lists_once, read_only_spec, refl, runs_file_spec, state, subst, sym, true, true≢false, ◌∙◌, ◌∷◌, ◌≡◌}
use Rattle.sqlite_trees.specs.View.{View, IsClean, IsRolledBack}
use Rattle.kt_dbfile.proofs.SeenLemmas.{read_serves}
use Rattle.kt_store.proofs.ServeLemmas.{IsWrite}
use Rattle.kt_store.proofs.Numbered.{numbers_changed, ordered_changed}

module _ (old new : View) (back : IsRolledBack old new) (clean : IsClean new) where
  pub rolled_held : KeepsLastCommit old new
  rolled_held opened = ((back.kept clean).was_open opened, (back.kept clean).committed opened, back.numbered)

-- a store that is not broken is open
open_if_sound : (v : View) → (v.is_open ≡ false → IsTrue v.is_broken) → v.is_broken ≡ false → IsTrue v.is_open
open_if_sound v law sound = elim v.is_open as (λ b. (b ≡ false → IsTrue v.is_broken) → IsTrue b) [ true ↦ λ _. refl | false ↦ λ shut. absurd (true≢false (sym (shut refl) ∙ sound)) ] law

-- a settled store shows the trees of the runs that it represents
pub has_runs : (v : View) (schema : Schema) → (v.is_open ≡ false → IsTrue v.is_broken) → IsSettledStore v schema → (runs : List Run) → HasCommitted v runs → HasRuns v runs
has_runs v schema law is runs has clean sound = subst (IsSchema2Of runs) (sym (is.settled clean sound)) (has (open_if_sound v law sound))

-- a store that was only read is settled
pub looked_settled : {S : Type 0} (g : Ghosts S) (old new : S) (schema : Schema) → ((g.view new).is_clean ≡ false → (g.view new).is_open ≡ false) → OnlyReadsStore g old new → IsSettledStore (g.view old) schema → IsSettledStore (g.view new) schema
looked_settled g old new schema dirty looks is = record {
  settled = λ clean sound.
      let same = looks.same clean sound in
      ap (λ (v : View). v.trees) same ∙ is.settled (looks.clean clean) (ap (λ (v : View). v.is_broken) (sym same) ∙ sound) ∙ ap (λ (v : View). v.committed) (sym same);
  sound = λ opened.
      let held = looks.held (clean_if_open (g.view new) dirty opened) opened in
      subst (IsSound schema) (sym held.1) (is.sound held.0);
}

module _ {S : Type 0} (g : Ghosts S) (dirty : (s : S) → (g.view s).is_clean ≡ false → (g.view s).is_open ≡ false) (shut : (s : S) → (g.view s).is_open ≡ false → IsTrue (g.view s).is_broken) (settles : (s : S) (db : Trees) → IsTrue (g.view s).is_open → g.recovers s db → db ≡ (g.view s).committed) (schema : Schema) where
  -- ---- a call that reads

  module _ (old new : S) (looks : OnlyReadsStore g old new) (is : IsSettledStore (g.view old) schema) where
    still : (runs : List Run) → HasCommitted (g.view old) runs → HasCommitted (g.view new) runs
    still runs h opened = let held = looks.held (clean_if_open (g.view new) (dirty new) opened) opened in subst (IsSchema2Of runs) (sym held.1) (h held.0)

    pub read_served : (call : StoreCall) → ((runs : List Run) → runs_after call runs ≡ runs)
        → ((runs : List Run) (may : List (List Run)) → ((runs_file_spec g).leaves old may → (runs_file_spec g).leaves new may) → SurvivesCrash (runs_file_spec g).leaves call runs may old new)
        → Serves (read_only_spec g) call old new → Serves (runs_file_spec g) call old new
    read_served call same lasts s = read_serves g old new looks HasCommitted still call same lasts (λ runs h. s.agrees runs (has_runs (g.view old) schema (shut old) is runs h.0, h.1, h.2))

  -- ---- a call that writes

  module _ {T : Type 0} (call : Result T StoreFault → StoreCall) (change : List Run → List Run) (writes : IsWrite (runs_file_spec g).leaves call change)
      (old mid new : S) (is : IsSettledStore (g.view old) schema) where
    wider : (runs : List Run) (may : List (List Run)) (trees : Trees) → IsSchema2OfOne (runs ∷ may) trees → IsSchema2OfOne (runs ∷ change runs ∷ may) trees
    wider runs may trees (inl one) = inl one
    wider runs may trees (inr more) = inr (inr more)

    has : (runs : List Run) → (runs_file_spec g).stands old runs → HasRuns (g.view old) runs
    has runs h = has_runs (g.view old) schema (shut old) is runs h.0

    made : (call' : StoreCall) (runs : List Run) → (runs_file_spec g).stands old runs → (IsClean (g.view new) → Agrees runs call') → (IsClean (g.view new) → IsClean (g.view old)) → HasCommitted (g.view new) (runs_after call' runs)
        → (runs_file_spec g).stands new (runs_after call' runs)
    made call' runs h agrees earlier kept = (kept, numbers_changed call' runs h.1, λ late. ordered_changed call' runs h.1 (h.2 (earlier late)) (agrees late))

    -- the written trees are those of the changed runs
    rows : (written : Result T StoreFault) → WritesRows g schema call old mid written → is_err written ≡ false → (runs : List Run) → (runs_file_spec g).stands old runs → IsClean (g.view mid) → IsSchema2Of (change runs) (g.view mid).trees
    rows (Ok x) wrote none runs h clean = subst (λ l. IsSchema2Of l (g.view mid).trees) (writes.done x runs) (wrote.rows runs (has runs h) clean)
    rows (Err f) wrote none runs h clean = absurd (true≢false none)

    -- the trees are numbered as before the call
    stays_numbered : (written result : Result T StoreFault) → WritesRows g schema call old mid written → EndsTransaction g mid new written result → StaysNumbered (g.view old) (g.view new)
    stays_numbered written result wrote ended clean opened =
        let second = ended.numbered clean opened in
        let first = wrote.held (ended.clean clean) second.0 in
        (first.0, second.1 ∙ first.2)

    -- the call serves, by its end
    pub ended_served : (written result : Result T StoreFault) → WritesRows g schema call old mid written → EndsTransaction g mid new written result → Serves (runs_file_spec g) (call result) old new
    ended_served written (Ok x) wrote ended =
        let done = subst (λ r. WritesRows g schema call old mid r) ended.value wrote in
        record {
          asked = stays_numbered written (Ok x) wrote ended;
          stands = λ runs h. made (call (Ok x)) runs h (λ late. done.agrees runs (has runs h) (ended.clean late)) (λ late. wrote.clean (ended.clean late)) (λ opened.
              let late = clean_if_open (g.view new) (dirty new) opened in
              subst (IsSchema2Of (runs_after (call (Ok x)) runs)) (sym (ended.done late).1) (done.rows runs (has runs h) (ended.clean late)));
          earlier = λ runs h late. wrote.clean (ended.clean late);
          agrees = λ runs h late. done.agrees runs (has runs h) (ended.clean late);
          crash = λ runs may h. writes.lasts x runs may old new (λ late trees found.
              let opened = open_if_sound (g.view new) (shut new) (ended.done late).0 in
              inl (subst (IsSchema2Of (change runs)) (sym (settles new trees opened found ∙ (ended.done late).1)) (rows (Ok x) done refl runs h (ended.clean late))));
        }
    ended_served written (Err e) wrote ended = record {
      asked = stays_numbered written (Err e) wrote ended;
      stands = λ runs h. made (call (Err e)) runs h (agrees runs h) (λ late. wrote.clean (ended.clean late)) (λ opened.
          let late = clean_if_open (g.view new) (dirty new) opened in
          let second = ended.kept late opened in
          let first = wrote.held (ended.clean late) second.0 in
          subst (λ l. IsSchema2Of l (g.view new).committed) (sym (writes.refused e runs)) (subst (IsSchema2Of runs) (sym (second.1 ∙ first.1)) (h.0 first.0)));
      earlier = λ runs h late. wrote.clean (ended.clean late);
      agrees = agrees;
      crash = λ runs may h. writes.survives e runs may old new (λ left late trees found. elim (ended.crash trees found) [
        | inl it ↦ inr (inl (subst (IsSchema2Of (change runs)) (sym it.1) (rows written wrote it.0 runs h (ended.clean late))))
        | inr before ↦ wider runs may trees (left (wrote.clean (ended.clean late)) trees (wrote.outcomes trees before))
      ]);
    }
      where
        agrees : (runs : List Run) → (runs_file_spec g).stands old runs → IsClean (g.view new) → Agrees runs (call (Err e))
        agrees runs h late = elim ended.fault [
          | inl same ↦ subst (λ r. Agrees runs (call r)) same (wrote.agrees runs (has runs h) (ended.clean late))
          | inr failed ↦ writes.fails e runs failed
        ]

    pub ended_settled : (written result : Result T StoreFault) → WritesRows g schema call old mid written → EndsTransaction g mid new written result → IsSettledStore (g.view new) schema
    ended_settled written (Ok x) wrote ended = record {
      settled = ended.settled;
      sound = λ opened.
          let late = clean_if_open (g.view new) (dirty new) opened in
          subst (IsSound schema) (sym (ended.done late).1) ((subst (λ r. WritesRows g schema call old mid r) ended.value wrote).obeys (ended.clean late)).sound;
    }
    ended_settled written (Err e) wrote ended = record {
      settled = ended.settled;
      sound = λ opened.
          let late = clean_if_open (g.view new) (dirty new) opened in
          let second = ended.kept late opened in
          let first = wrote.held (ended.clean late) second.0 in
          subst (IsSound schema) (sym (second.1 ∙ first.1)) (is.sound first.0);
    }

-- ---- the results of a connection, by the trees of its store

-- a settled store obeys the schema that its trees list
pub settled_by : (v : View) (listed : Schema) → (v.trees ≡ v.committed) → Lists (v.trees catalog_tree) listed → (IsTrue v.is_open → (schema : Schema) × IsSound schema v.committed) → IsTrue v.is_open → IsSound listed v.committed
settled_by v listed same lists has opened =
    let it = has opened in
    let one : it.0 ≡ listed = lists_once (v.committed catalog_tree) it.0 listed it.1.lists (subst (λ (t : Trees). Lists (t catalog_tree) listed) same lists) in
    subst (λ s. IsSound s v.committed) one it.1

module _ {S : Type 0} (g : Ghosts S) (held : Held S) (new : S) (dirty : (g.view new).is_clean ≡ false → (g.view new).is_open ≡ false) (lives : IsLive (state g held)) (undone : IsRolledBack (g.view held.store) (g.view new)) where
  pub still_sound : IsTrue (g.view new).is_open → (schema : Schema) × IsSound schema (g.view new).committed
  still_sound opened =
      let was = rolled_held (g.view held.store) (g.view new) undone (clean_if_open (g.view new) dirty opened) opened in
      ((state g held).committed.schema, subst (IsSound (state g held).committed.schema) (sym was.1) (lives was.0).1)

  pub still_stands : (IsClean (g.view new) → HasCleanDisk (state g held)) → (runs : List Run) → StandsFor (state g held) runs → HasCommitted (g.view new) runs
  still_stands earlier runs has opened =
      let clean = clean_if_open (g.view new) dirty opened in
      let was = rolled_held (g.view held.store) (g.view new) undone clean opened in
      let is = has (earlier clean) was.0 in
      let trees : (g.view new).committed ≡ (state g held).now.trees = was.1 ∙ ap (λ (d : Database). d.trees) is.settled in
      ((state g held).now, (lives was.0).0, trees, is.tables)
