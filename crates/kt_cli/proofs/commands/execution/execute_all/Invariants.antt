use Rattle.std.proofs.Common.{◌+◌, ◌≤◌, drop, length}
use Rattle.kt_cli.proofs.Common.{vec_len, vec_capacity, IsIdle, command_state, world_of}
use Rattle.kt_cli.proofs.Sequencing.{GoesOn}
use Rattle.kt_cli.proofs.commands.execution.execute_all.Given as goal

-- executing the remaining commands completes the execution, and the list has capacity for their
-- exit statuses
abbrev pub invariant-loop-command : goal.invariant-loop-command
invariant-loop-command g l = record {
  goes : GoesOn (world_of g.W.Tree g.W.Launcher g.W.World) g.R.StoreSpec l.commands (drop l.command-index l.commands) (command_state l.fn.world l.fn.results (g.O.Write.contents l.fn.out)) (command_state l.world l.results (g.O.Write.contents l.out)) l.exits.items;
  idle : IsIdle (g.W.Launcher.running l.world) (g.W.Launcher.pending l.world);
  room : vec_len l.exits + length (drop l.command-index l.commands) ≤ vec_capacity l.exits;
}
