use Rattle.std.proofs.Common.{◌-◌, length}
use Rattle.kt_suite.proofs.Reading.{Reading}
use Rattle.kt_suite.proofs.loader.+load_file.Given as goal

abbrev pub invariant-loop-stmt : goal.invariant-loop-stmt
invariant-loop-stmt g l = Reading g.T.Tree.asks l.fn.tree l.tree l.fn.registry l.file l.registry l.suite l.rest

abbrev pub decreases-loop-stmt : goal.decreases-loop-stmt
decreases-loop-stmt g l = length l.rest

abbrev pub decreases-load_file : goal.decreases-load_file
decreases-load_file g l = 32 - length l.registry.open_kyuafiles
