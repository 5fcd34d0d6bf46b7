use Rattle.std.proofs.Common.{length}
use Rattle.kt_cli.proofs.output.spool.Spool.append.Given as goal

abbrev pub decreases-loop-rest : goal.decreases-loop-rest
decreases-loop-rest l = length l.rest
