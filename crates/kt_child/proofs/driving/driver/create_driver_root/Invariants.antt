use Rattle.std.proofs.Common.{List}
use Rattle.kt_child.proofs.Common.{Chain, Call, FailsToCreateRoots}
use Rattle.kt_child.proofs.driving.driver.create_driver_root.Given as goal

abbrev pub invariant-loop-number : goal.invariant-loop-number
invariant-loop-number g l = (calls : List Call) × Chain g.O.Os.leads l.initial.os calls l.os × FailsToCreateRoots l.base l.number calls
