use Rattle.std.proofs.Common.{refl}
use Rattle.kt_cli.proofs.Common.{AnyFilters, listed, world_of}
use Rattle.kt_args.specs.declared.command.Command.TheVariants as command
use Rattle.kt_cli.proofs.Testings.{printed_as, picked_only, stopped_only}
use Rattle.kt_cli.proofs.commands.listing.list.Goals as goal

pub returns-in-Ok-clause-asked : goal.returns-in-Ok-clause-asked
returns-in-Ok-clause-asked g c =
    picked_only (world_of g.W.Tree g.W.Launcher g.W.World) _ AnyFilters c.args.options.now _ _ _ _ _ c.in-Ok.picked _ _ (λ failed world_calls s k. listed c.args.options.now c.in-Ok.picked s k) c.in-Ok.ensures.selects
    (printed_as _ _ _ _ _ _ _ c.write_listing-written.ensures (rw (c.as_slice.ensures) at c.exit_status.ensures) c.exit_after_write.ensures)

pub returns-in-Err-clause-asked : goal.returns-in-Err-clause-asked
returns-in-Err-clause-asked g c =
    stopped_only (world_of g.W.Tree g.W.Launcher g.W.World) (command.List c.args.options.now) c.args.options.now _ _ _ _ _ c.in-Err.fault refl c.in-Err.ensures.selects c.print_selection_error.ensures
