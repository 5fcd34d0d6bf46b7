use Rattle.std.proofs.Common.{refl}
use Rattle.kt_cli.proofs.Common.{world_of}
use Rattle.kt_args.specs.declared.command.Command.TheVariants as command
use Rattle.kt_cli.proofs.Testings.{idle_after, short_only, stopped_only, did_asked, did_test, printed_as}
use Rattle.kt_cli.proofs.commands.testing.test.Goals as goal

pub returns-in-Err-clause-did : goal.returns-in-Err-clause-did
returns-in-Err-clause-did g c =
    did_asked (world_of g.W.Tree g.W.Launcher g.W.World) g.R.StoreSpec _ _ _ _ _ _ _
    (stopped_only (world_of g.W.Tree g.W.Launcher g.W.World) (command.Test c.args.options.now c.args.file.now) c.args.options.now _ _ _ _ _
    c.in-Err.fault refl c.in-Err.ensures.selects c.print_selection_error.ensures)

pub returns-in-Err-prepare_plan-clause-did : goal.returns-in-Err-prepare_plan-clause-did
returns-in-Err-prepare_plan-clause-did g c =
    did_asked (world_of g.W.Tree g.W.Launcher g.W.World) g.R.StoreSpec _ _ _ _ _ _ _
    (short_only (world_of g.W.Tree g.W.Launcher g.W.World) (command.Test c.args.options.now c.args.file.now) c.args.options.now _ _ _ _ _ _ c.in-Ok.picked
    _ refl c.in-Ok.ensures.selects refl c.in-Err-prepare_plan.ensures.planned
    (printed_as _ _ _ _ _ _ _ c.write_memory_error.ensures refl c.exit_after_write.ensures))

pub run_plan-requires-clause-idle : goal.run_plan-requires-clause-idle
run_plan-requires-clause-idle g c =
    idle_after (world_of g.W.Tree g.W.Launcher g.W.World) g.met.W.World.host_keeps_running g.met.W.World.host_keeps_pending _ _ _ c.now-moment.ensures.reply c.in-Ok-prepare_plan.ensures.idle

pub returns-clause-did : goal.returns-clause-did
returns-clause-did g c =
    did_test (world_of g.W.Tree g.W.Launcher g.W.World) g.R.StoreSpec _ _ c.args.options.now c.args.file.now _ _ _ c.in-Ok.picked
    c.in-Ok-prepare_plan.plan _ _ c.in-Ok.ensures.selects c.in-Ok-prepare_plan.ensures.planned c.now-moment.ensures.reply (rw (c.parallelism.ensures.value) at c.run_plan.ensures.ran)
