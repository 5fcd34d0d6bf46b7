use Rattle.kt_atflist.proofs.Lists.{one_answer}
use Rattle.kt_atflist.proofs.OneListing.{cases_once}
use Rattle.kt_atflist.proofs.program_cases.theorem_of_one_case_list.Goals as goal

pub returns-clause-text : goal.returns-clause-text
returns-clause-text c = one_answer

pub returns-clause-program : goal.returns-clause-program
returns-clause-program c = cases_once
