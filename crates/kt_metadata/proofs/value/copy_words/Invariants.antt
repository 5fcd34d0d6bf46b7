use Rattle.std.proofs.Common.{◌≡◌, ◌++◌, drop}
use Rattle.kt_metadata.proofs.value.copy_words.Given as goal

-- The copied elements, followed by the remaining elements, are all elements.
abbrev pub invariant-loop-word : goal.invariant-loop-word
invariant-loop-word l = l.copy ++ drop l.word-index l.words ≡ l.words
