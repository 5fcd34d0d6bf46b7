use Rattle.std.proofs.Common.{◌≤◌, length}
use Rattle.kt_cli.specs.Common.{Keeps, accepted_bytes, unsent_bytes}
use Rattle.kt_cli.proofs.output.nonblocking_output.NonblockingOutput.offer_while_accepted.Given as goal

abbrev pub invariant-loop : goal.invariant-loop
invariant-loop g l =
    Keeps (accepted_bytes g.W.Write.contents l.fn.self) (accepted_bytes g.W.Write.contents l.self)
    × (length (unsent_bytes l.self) ≤ length (unsent_bytes l.fn.self))
