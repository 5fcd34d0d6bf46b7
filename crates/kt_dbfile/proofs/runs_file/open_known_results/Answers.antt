use Rattle.kt_dbfile.proofs.Common.{IsTrue, HasSchemaNumber, clean_if_open, image_of, inl, inr, pos, rules, shut_if_dirty_at, subst, sym, view, ◌∙◌}
use Rattle.kt_dbfile.proofs.FailLemmas.{keeps_still, kept_by_reads, known_by_reads}
use Rattle.kt_dbfile.proofs.OpeningLemmas.{opens_runs}
use Rattle.kt_dbfile.proofs.runs_file.open_known_results.Goals as goal

pub returns-in-Ok-clause-found : goal.returns-in-Ok-clause-found
returns-in-Ok-clause-found g c =
    let r = c.in-Ok.it in
    let over = c.in-Ok-Ok.ensures in
    let found = c.in-Ok.ensures.found in
    let settled = rw c.in-Ok-Ok.field-0-is at over.settled in
    record {
      held = opens_runs (image_of g.D.Disk c.args.files) c.in-Ok-Ok.store r found.0 settled (rw c.in-Ok-Ok.field-0-is at over.unbroken) (rw c.in-Ok-Ok.field-0-is at over.opens);
      whose = inl (record {
        lists = λ clean. (rw c.in-Ok-Ok.field-0-is at over.lists) (found.0.clean clean);
        schema = λ opened.
            let clean = clean_if_open (view r) (shut_if_dirty_at r) opened in
            subst (HasSchemaNumber (pos 2)) (settled ∙ sym (found.0.held clean opened).1) (found.1 clean);
      });
      numbered = λ clean must. subst IsTrue (sym found.0.schema.numbered) ((rw c.in-Ok-Ok.field-0-is at over.tested) (found.0.clean clean) must);
    }

-- files that were only read keep their runs
pub returns-in-Err-clause-left : goal.returns-in-Err-clause-left
returns-in-Err-clause-left g c = record {
  kept = λ honest after may. elim (c.in-Err.ensures.left honest after may) [ inl was ↦ inl was | inr same ↦ inr (keeps_still (image_of g.D.Disk c.args.files) after same) ];
  known = λ _ _ _. search rules;
}

-- so does a store of schema 2
pub returns-in-Err-wrap_schema_2-clause-left : goal.returns-in-Err-wrap_schema_2-clause-left
returns-in-Err-wrap_schema_2-clause-left g c =
    let before = image_of g.D.Disk c.args.files in
    let over = c.in-Ok-Ok.ensures in
    let store = c.in-Ok-Ok.store in
    let left = c.in-Err-wrap_schema_2.read in
    let looks = c.in-Err-wrap_schema_2.ensures.left in
    let opens = rw c.in-Ok-Ok.field-0-is at over.opens in
    let lists = rw c.in-Ok-Ok.field-0-is at over.lists in
    record {
      kept = λ honest after may. inr (kept_by_reads before store left looks opens lists (rw c.in-Ok-Ok.field-0-is at over.tested) honest after may);
      known = λ honest. known_by_reads before store left looks opens lists c.in-Err-wrap_schema_2.fault (rw c.in-Ok-Ok.field-0-is at over.unbroken) c.in-Err-wrap_schema_2.ensures.unknown honest;
    }
