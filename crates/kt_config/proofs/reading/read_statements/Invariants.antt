use Rattle.std.proofs.Common.{drop}
use Rattle.kt_config.proofs.Answering.{HasRead}
use Rattle.kt_config.proofs.reading.read_statements.Given as goal

abbrev pub invariant-loop-stmt : goal.invariant-loop-stmt
invariant-loop-stmt l = HasRead l.config l.stmts (drop l.stmt-index l.stmts)
