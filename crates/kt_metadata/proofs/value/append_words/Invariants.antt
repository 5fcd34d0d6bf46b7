use Rattle.std.proofs.Common.{◌≡◌, drop, ◌++◌}
use Rattle.kt_metadata.proofs.Common.{space_prefixed}
use Rattle.kt_metadata.proofs.value.append_words.Given as goal

-- The text so far, followed by the remaining elements with their spaces, is the final text.
abbrev pub invariant-loop-word : goal.invariant-loop-word
invariant-loop-word l = l.text ++ space_prefixed (drop l.word-index l.words) ≡ l.fn.front ++ space_prefixed l.words
