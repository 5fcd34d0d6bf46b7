use Rattle.kt_cli.proofs.output.spool.Spool.print_all.Given as goal

abbrev pub decreases-loop-self : goal.decreases-loop-self
decreases-loop-self g l = l.self.left
