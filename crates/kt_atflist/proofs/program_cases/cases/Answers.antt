use Rattle.std.proofs.lemmas.Result.{IfOk-weaker}
use Rattle.kt_atflist.proofs.Common.{chars}
use Rattle.kt_atflist.proofs.ProgramCases.{main_by}
use Rattle.kt_atflist.proofs.program_cases.cases.Goals as goal

pub returns-in-Tap : goal.returns-in-Tap
unfolding chars
returns-in-Tap c = IfOk-weaker c.single_case_list.result _ _ (λ cases e. main_by c.args.props.now c.args.interface c.args.listing.now cases c.in-Tap.is e) c.single_case_list.ensures
