use Rattle.std.proofs.Common.{rules, ◌≡◌, [], refl, take, Ok, Err}
use Rattle.kt_cli.proofs.Common.{OneCase, nothing_to_debug, world_of}
use Rattle.kt_args.specs.declared.command.Command.TheVariants as command
use Rattle.kt_cli.proofs.Testings.{stopped_only, picked_only, short_only, printed_as, debug_only, debug_short}
use Rattle.kt_cli.proofs.commands.debugging.debug.Goals as goal

pub returns-in-Err-clause-asked : goal.returns-in-Err-clause-asked
returns-in-Err-clause-asked g c =
    stopped_only (world_of g.W.Tree g.W.Launcher g.W.World) (command.Debug c.args.options.now) c.args.options.now _ _ _ _ _ c.in-Err.fault refl
    c.in-Err.ensures.selects c.print_selection_error.ensures

pub returns-then-is_empty-clause-asked : goal.returns-then-is_empty-clause-asked
returns-then-is_empty-clause-asked g c =
    let none : c.in-Ok.picked.chosen.cases ≡ [] = search rules in
    picked_only (world_of g.W.Tree g.W.Launcher g.W.World) _ OneCase c.args.options.now _ _ _ _ _ c.in-Ok.picked _ _
    (λ failed world_calls s k. nothing_to_debug c.args.options.now c.in-Ok.picked s none k) c.in-Ok.ensures.selects
    (printed_as _ _ _ _ _ _ _ (rw (c.as_slice.ensures) at c.write_warnings-warned.ensures) refl c.exit_after_write.ensures)

pub returns-in-Err-prepare_plan-clause-asked : goal.returns-in-Err-prepare_plan-clause-asked
returns-in-Err-prepare_plan-clause-asked g c =
    let one : c.from_vec.result ≡ take 1 c.in-Ok.picked.chosen.cases = search rules in
    short_only (world_of g.W.Tree g.W.Launcher g.W.World) (command.Debug c.args.options.now) c.args.options.now _ _ _ _ _ _ c.in-Ok.picked _ refl
    c.in-Ok.ensures.selects one c.in-Err-prepare_plan.ensures.planned
    (printed_as _ _ _ _ _ _ _ c.write_memory_error.ensures refl c.exit_after_write-in-Err-prepare_plan.ensures)

pub returns-in-Ok-answer-clause-asked : goal.returns-in-Ok-answer-clause-asked
returns-in-Ok-answer-clause-asked g c =
    let e : c.print_cases-answer.result.0 ≡ Ok c.in-Ok-answer.totals = search rules in
    let one : c.from_vec.result ≡ take 1 c.in-Ok.picked.chosen.cases = search rules in
    let some : c.in-Ok.picked.chosen.cases ≡ [] → ⊥ = search rules in
    debug_only (world_of g.W.Tree g.W.Launcher g.W.World) c.args.options.now _ _ _ _ _ _ _ c.in-Ok.picked _ c.in-Ok-prepare_plan.plan _ c.in-Ok-answer.totals _
    c.in-Ok.ensures.selects some one c.in-Ok-prepare_plan.ensures.planned (rw e at c.print_cases-answer.ensures.debugged) (search rules) c.exit_after_write-in-Ok-answer.ensures

pub returns-clause-asked : goal.returns-clause-asked
returns-clause-asked g c =
    let e : c.print_cases-answer.result.0 ≡ Err c.in-Err-answer.fault = search rules in
    let one : c.from_vec.result ≡ take 1 c.in-Ok.picked.chosen.cases = search rules in
    debug_short (world_of g.W.Tree g.W.Launcher g.W.World) c.args.options.now _ _ _ _ _ _ _ _ c.in-Ok.picked _ c.in-Ok-prepare_plan.plan _ _ c.in-Err-answer.fault
    c.in-Ok.ensures.selects one c.in-Ok-prepare_plan.ensures.planned
    (rw e at c.print_cases-answer.ensures.debugged) c.write_run_fault.ensures c.exit_after_write-in-Err-answer.ensures
