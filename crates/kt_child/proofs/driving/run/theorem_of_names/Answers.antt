use Rattle.kt_child.proofs.NumberSteps.{numbers_differ}
use Rattle.kt_child.proofs.driving.run.theorem_of_names.Goals as goal

pub returns : goal.returns
returns c = numbers_differ
