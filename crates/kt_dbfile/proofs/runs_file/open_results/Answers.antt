use Rattle.kt_dbfile.proofs.Common.{image_of, inl, inr, rules}
use Rattle.kt_dbfile.proofs.FailLemmas.{kept_by_attach, known_by_attach}
use Rattle.kt_dbfile.proofs.OpeningLemmas.{found_of, of_file}
use Rattle.kt_dbfile.proofs.runs_file.open_results.Goals as goal

pub returns-in-Ok-attach_files_and_convert-clause-opened : goal.returns-in-Ok-attach_files_and_convert-clause-opened
returns-in-Ok-attach_files_and_convert-clause-opened g c =
    let conn = c.in-Ok.connection in
    rw c.in-Ok-attach_files_and_convert.is at (found_of (image_of g.D.Disk c.args.files) conn c.attach_files_and_convert.result
    (of_file c.args.files c.in-Ok-Err.left conn (rw c.in-Ok-Err.field-0-is at c.in-Ok-Err.ensures.back) c.in-Ok.ensures.opened) c.attach_files_and_convert.ensures.attached)

pub returns-in-Err-connect-clause-left : goal.returns-in-Err-connect-clause-left
returns-in-Err-connect-clause-left g c =
    let back = (rw c.in-Ok-Err.field-0-is at c.in-Ok-Err.ensures.back) in
    inr (record { seen = c.in-Ok-Err.left; read = λ clean. (back.read clean).1; crash = back.crash; left_of = c.in-Err-connect.ensures.left }, search rules)

pub returns-in-Err-attach_files_and_convert-clause-left : goal.returns-in-Err-attach_files_and_convert-clause-left
returns-in-Err-attach_files_and_convert-clause-left g c =
    let before = image_of g.D.Disk c.args.files in
    let conn = c.in-Ok.connection in
    let over = of_file c.args.files c.in-Ok-Err.left conn (rw c.in-Ok-Err.field-0-is at c.in-Ok-Err.ensures.back) c.in-Ok.ensures.opened in
    let failed = c.in-Err-attach_files_and_convert.ensures.left in
    let fault = c.in-Err-attach_files_and_convert.fault in
    let store = c.in-Err-attach_files_and_convert.store in
    inl (record {
      kept = λ honest after may. inr (kept_by_attach before conn over fault store failed honest after may);
      known = λ honest. known_by_attach before conn over fault store failed honest;
    })
