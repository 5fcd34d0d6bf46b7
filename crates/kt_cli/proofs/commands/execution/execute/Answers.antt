use Rattle.kt_cli.proofs.Common.{world_of}
use Rattle.kt_cli.proofs.Testings.{did_asked, did_called}
use Rattle.kt_cli.proofs.commands.execution.execute.Goals as goal

pub returns-in-List-clause-did : goal.returns-in-List-clause-did
returns-in-List-clause-did g c = rw c.in-List.is (did_asked (world_of g.W.Tree g.W.Launcher g.W.World) g.R.StoreSpec _ _ _ _ _ _ _ c.list.ensures.asked)

pub returns-in-Debug-clause-did : goal.returns-in-Debug-clause-did
returns-in-Debug-clause-did g c =
    rw c.in-Debug.is (did_asked (world_of g.W.Tree g.W.Launcher g.W.World) g.R.StoreSpec _ _ _ _ _ _ _ c.debug.ensures.asked)

pub returns-in-Report-clause-did : goal.returns-in-Report-clause-did
returns-in-Report-clause-did g c = did_called (world_of g.W.Tree g.W.Launcher g.W.World) g.R.StoreSpec _ _ _ _ _ _ _ c.execute_report.ensures
