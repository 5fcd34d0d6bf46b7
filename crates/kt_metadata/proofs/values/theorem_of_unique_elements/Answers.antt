use Rattle.kt_metadata.proofs.WordLaws.{are-list_elements, no-others}
use Rattle.kt_metadata.proofs.values.theorem_of_unique_elements.Goals as goal

pub returns-clause-words : goal.returns-clause-words
returns-clause-words c = λ text. are-list_elements text

pub returns-clause-only : goal.returns-clause-only
returns-clause-only c = λ text found are. no-others text found are
