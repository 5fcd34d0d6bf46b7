use Rattle.kt_script.proofs.Common.{tokens}
use Rattle.kt_script.proofs.OneReading.{same_tokens}
use Rattle.kt_script.proofs.SomeReading.{some_reading}
use Rattle.kt_script.proofs.script.theorem_of_one_token_list.Goals as goal

pub returns-clause-some : goal.returns-clause-some
returns-clause-some c = (tokens 1 0 c.args.text.now, some_reading 1 c.args.text.now)

pub returns-clause-one : goal.returns-clause-one
returns-clause-one c = same_tokens c.args.text.now
