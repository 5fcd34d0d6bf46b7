use Rattle.std.proofs.lemmas.Result.{IfOk-weaker}
use Rattle.kt_atflist.proofs.Common.{chars}
use Rattle.kt_atflist.proofs.ProgramCases.{listed_by, unlisted_by}
use Rattle.kt_atflist.proofs.program_cases.atf_program_cases.Goals as goal

pub returns-in-Ok : goal.returns-in-Ok
returns-in-Ok c =
    IfOk-weaker c.share_and_overlay.result _ _
    (λ cases e. listed_by c.args.props.now c.args.listing.now c.in_ok-found.found c.in-Ok.found cases c.in_ok-found.ensures c.in-Ok.is e) c.share_and_overlay.ensures

pub returns-in-Err : goal.returns-in-Err
unfolding chars
returns-in-Err c =
    IfOk-weaker c.single_case_list.result _ _
    (λ cases e. unlisted_by c.args.props.now c.args.listing.now c.in_ok-found.found c.in-Err.reason cases c.in_ok-found.ensures c.in-Err.is e) c.single_case_list.ensures
