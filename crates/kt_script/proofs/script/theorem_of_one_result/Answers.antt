use Rattle.kt_script.proofs.OneAnswer.{one_answer, some_answer}
use Rattle.kt_script.proofs.script.theorem_of_one_result.Goals as goal

pub returns-clause-some : goal.returns-clause-some
returns-clause-some c = some_answer c.args.text.now

pub returns-clause-one : goal.returns-clause-one
returns-clause-one c = one_answer c.args.text.now
