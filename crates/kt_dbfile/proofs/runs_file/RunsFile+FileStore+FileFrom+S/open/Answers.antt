use Rattle.kt_dbfile.proofs.Common.{IsTrustedImage, subst, sym, ◌≡◌}
use Rattle.kt_store.specs.Files.{RepresentsImage}
use Rattle.kt_dbfile.specs.Common.{FailsToOpen, image_at}
use Rattle.kt_dbfile.proofs.FailLemmas.{as_left, left_before}
use Rattle.kt_dbfile.proofs.OpeningLemmas.{as_found}
use Rattle.kt_dbfile.proofs.runs_file.RunsFile+FileStore+FileFrom+S.open.Goals as goal

-- what is assumed of the first contents is assumed of the files
pub open_results-requires-clause-held : goal.open_results-requires-clause-held
open_results-requires-clause-held g c =
    subst IsTrustedImage (sym (as_found g.S.Start.log g.S.Start.db c.in-Ok-open_files.ensures.fresh)) g.met.S.TrustedContents.holds

pub returns-in-Ok-open_results-clause-opened : goal.returns-in-Ok-open_results-clause-opened
returns-in-Ok-open_results-clause-opened g c =
    subst (λ i. RepresentsImage i c.in-Ok-open_results.it) (as_found g.S.Start.log g.S.Start.db c.in-Ok-open_files.ensures.fresh) c.in-Ok-open_results.ensures.opened

-- a crash before the open left the first contents
pub returns-in-Err-open_results-clause-left : goal.returns-in-Err-open_results-clause-left
returns-in-Err-open_results-clause-left g c =
    let first = image_at g.S.Start in
    let fresh = c.in-Ok-open_files.ensures.fresh in
    let left = c.in-Err-open_results.left in
    let fault = c.in-Err-open_results.fault in
    subst (λ i. FailsToOpen (λ after. after ≡ first) i left fault) (as_found g.S.Start.log g.S.Start.db fresh)
    (left_before _ (λ after. after ≡ first) _ left fault (as_left g.S.Start.is_mixing g.S.Start.log g.S.Start.db fresh) c.in-Err-open_results.ensures.left)
