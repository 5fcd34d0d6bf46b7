use Rattle.kt_suite.proofs.SteadyTrees.{one_meaning_twice, one_meaning}
use Rattle.kt_suite.proofs.loader.theorem_of_reloading.Goals as goal

pub returns-clause-steady : goal.returns-clause-steady
returns-clause-steady c = one_meaning_twice

pub returns-clause-decided : goal.returns-clause-decided
returns-clause-decided c = one_meaning
