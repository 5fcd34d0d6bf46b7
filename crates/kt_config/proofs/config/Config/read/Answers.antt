use Rattle.std.proofs.Common.{rules}
use Rattle.kt_config.proofs.Common.{definitions_of_file, IsResultOfDefinitions}
use Rattle.kt_config.proofs.Answering.{script_due, script_only, right_only, right_due}
use Rattle.kt_config.proofs.config.Config.read.Goals as goal

pub returns-in-Err-clause-only : goal.returns-in-Err-clause-only
returns-in-Err-clause-only c = script_only c.args.text.now c.in-Err.fault c.convert_script_fault.result c.convert_script_fault.ensures c.in-Err.ensures.only

pub returns-in-Err-clause-due : goal.returns-in-Err-clause-due
returns-in-Err-clause-due c =
    script_due c.args.text.now c.in-Err.fault c.convert_script_fault.result c.convert_script_fault.ensures c.in-Err.ensures.due c.in-Err.ensures.only

pub returns-in_ok-read_script-in-Ok-clause-only : goal.returns-in_ok-read_script-in-Ok-clause-only
returns-in_ok-read_script-in-Ok-clause-only c =
    let g : IsResultOfDefinitions c.in_ok-read_script-in-Ok.field-0 (definitions_of_file c.in-Ok.stmts) = search rules in
    right_only c.args.text.now c.in-Ok.stmts c.in-Ok.ensures.accepted c.in_ok-read_script-in-Ok.field-0 g

pub returns-in_ok-read_script-in-Ok-clause-due : goal.returns-in_ok-read_script-in-Ok-clause-due
returns-in_ok-read_script-in-Ok-clause-due c =
    let g : IsResultOfDefinitions c.in_ok-read_script-in-Ok.field-0 (definitions_of_file c.in-Ok.stmts) = search rules in
    right_due c.args.text.now c.in-Ok.stmts c.in-Ok.ensures.accepted c.in_ok-read_script-in-Ok.field-0 g
