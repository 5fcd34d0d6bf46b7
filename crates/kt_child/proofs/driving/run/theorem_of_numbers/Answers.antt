use Rattle.kt_child.proofs.NumberSteps.{attempts_differ}
use Rattle.kt_child.proofs.driving.run.theorem_of_numbers.Goals as goal

pub returns : goal.returns
returns g c = attempts_differ g.O.Os.leads
