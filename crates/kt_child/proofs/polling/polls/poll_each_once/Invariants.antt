use Rattle.std.proofs.Common.{◌≡◌, List, take}
use Rattle.kt_child.proofs.Common.{Chain, Call, All, IsRunningChild, PollsAll, children_after_running}
use Rattle.kt_child.proofs.polling.polls.poll_each_once.Given as goal

abbrev pub invariant-loop-i : goal.invariant-loop-i
invariant-loop-i g l =
    record {
      asked : (calls : List Call) × Chain g.O.Os.leads l.initial.os calls l.os × PollsAll (take l.i l.initial.children) calls;
      children : l.children ≡ children_after_running l.i l.initial.children;
      on : All IsRunningChild l.children;
    }
