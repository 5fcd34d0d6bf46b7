use Rattle.kt_suite.proofs.Overlaps.{within_is, is-within, shares, sharing}
use Rattle.kt_suite.proofs.disjoint.theorem_of_overlaps.Goals as goal

pub returns-clause-within : goal.returns-clause-within
returns-clause-within c = λ directory path. (within_is directory path, is-within directory path)

pub returns-clause-overlaps : goal.returns-clause-overlaps
returns-clause-overlaps c = λ filter other. (shares filter other, sharing filter other)
