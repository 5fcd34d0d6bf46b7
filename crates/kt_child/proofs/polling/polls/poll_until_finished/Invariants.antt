use Rattle.kt_child.proofs.Common.{All, IsRunningChild}
use Rattle.kt_child.proofs.WaitSteps.{Waiting, first_left}
use Rattle.kt_child.proofs.polling.polls.poll_until_finished.Given as goal

abbrev pub invariant-rounds : goal.invariant-rounds
invariant-rounds g l =
    record {
      waiting : Waiting g.O.Os.leads l.initial.os l.initial.children l.os l.children;
      on : All IsRunningChild l.children;
    }

abbrev pub decreases-rounds : goal.decreases-rounds
decreases-rounds g l = first_left l.children
