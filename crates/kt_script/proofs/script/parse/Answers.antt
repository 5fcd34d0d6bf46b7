use Rattle.std.proofs.Common.{arith}
use Rattle.kt_script.proofs.Answering.{spelled, only_answer, refused}
use Rattle.kt_script.proofs.OneAnswer.{refuses}
use Rattle.kt_script.proofs.script.parse.Goals as goal

pub returns-clause-accepted : goal.returns-clause-accepted
returns-clause-accepted c = spelled c.statements.result c.args.text.now c.in-Ok.text.now (omega arith) c.in-Ok.ensures.cases.1 c.in-Ok.ensures.cases.0 c.statements.ensures.ok

pub returns-clause-only : goal.returns-clause-only
returns-clause-only c = only_answer c.statements.result c.args.text.now c.in-Ok.text.now c.in-Ok.ensures.cases.0 c.statements.ensures.ok c.statements.ensures.fault

pub returns-clause-refused : goal.returns-clause-refused
returns-clause-refused c = refused c.statements.result c.args.text.now c.in-Ok.text.now (omega arith) c.in-Ok.ensures.cases.1 c.in-Ok.ensures.cases.0 c.statements.ensures.fault

pub returns-clause-due : goal.returns-clause-due
returns-clause-due c =
    refuses c.statements.result c.args.text.now
    (spelled c.statements.result c.args.text.now c.in-Ok.text.now (omega arith) c.in-Ok.ensures.cases.1 c.in-Ok.ensures.cases.0 c.statements.ensures.ok)
    (refused c.statements.result c.args.text.now c.in-Ok.text.now (omega arith) c.in-Ok.ensures.cases.1 c.in-Ok.ensures.cases.0 c.statements.ensures.fault)
