use Rattle.std.proofs.Common.{rules, ◌≡◌}
use Rattle.kt_suite.proofs.Common.{meaning_of}
use Rattle.kt_suite.specs.declared.meaning.Meaning.TheVariants as meaning
use Rattle.kt_suite.proofs.OneStep.{step_short, step_wrong, step_suite, step_included, step_added, step_not_added}
use Rattle.kt_suite.proofs.stepping.execute_statement.Goals as goal

pub returns-in-Err-clause-step : goal.returns-in-Err-clause-step
returns-in-Err-clause-step g c = step_short g.T.Tree.asks _ _ _ _ _ (c.in-Err.refusal, c.fault_of_allocation.ensures)

pub returns-in-Ok-Wrong-clause-step : goal.returns-in-Ok-Wrong-clause-step
returns-in-Ok-Wrong-clause-step g c =
    let e : meaning.Wrong c.in-Ok-Wrong.cause ≡ meaning_of c.args.suite.now c.args.stmt.now.action = search rules in
    step_wrong g.T.Tree.asks _ _ _ _ _ _ e c.fault_at.ensures

pub returns-in-Ok-Suite-clause-step : goal.returns-in-Ok-Suite-clause-step
returns-in-Ok-Suite-clause-step g c =
    let e : meaning.Suite c.in-Ok-Suite.name ≡ meaning_of c.args.suite.now c.args.stmt.now.action = search rules in
    step_suite g.T.Tree.asks _ _ _ _ _ e

pub returns-in-Ok-Include-clause-step : goal.returns-in-Ok-Include-clause-step
returns-in-Ok-Include-clause-step g c =
    let e : meaning.Include c.in-Ok-Include.name ≡ meaning_of c.args.suite.now c.args.stmt.now.action = search rules in
    step_included g.T.Tree.asks _ c.args.registry (record { file = c.args.file.now; line = c.args.stmt.now.line }) _ _ c.include_step.result e c.include_step.ensures.ok c.include_step.ensures.err

pub returns-in-Err-register_program-clause-step : goal.returns-in-Err-register_program-clause-step
returns-in-Err-register_program-clause-step g c =
    let e : meaning.Program c.in-Ok-Program.interface c.in-Ok-Program.name c.in-Ok-Program.own c.in-Ok-Program.props ≡ meaning_of c.args.suite.now c.args.stmt.now.action = search rules in
    step_not_added g.T.Tree.asks _ _ _ (record { file = c.args.file.now; line = c.args.stmt.now.line }) _ _ _ _ _ _ e c.in-Err-register_program.ensures

pub returns-in-Ok-clause-step : goal.returns-in-Ok-clause-step
returns-in-Ok-clause-step g c =
    let e : meaning.Program c.in-Ok-Program.interface c.in-Ok-Program.name c.in-Ok-Program.own c.in-Ok-Program.props ≡ meaning_of c.args.suite.now c.args.stmt.now.action = search rules in
    step_added g.T.Tree.asks _ _ _ _ (record { file = c.args.file.now; line = c.args.stmt.now.line }) _ _ _ _ _ e c.in-Ok.ensures
