use Rattle.std.proofs.Common.{◌≡◌, ◌++◌}
use Rattle.std.specs.Str.{IsUtf8, chars}
use Rattle.std.specs.Str.Iter.{chars_rest}
use Rattle.kt_metadata.proofs.Common.{list_elements, elements_from}
use Rattle.kt_metadata.proofs.values.split_elements.Given as goal

-- The elements found so far, followed by the elements of the remaining text, are all elements.
abbrev pub invariant-loop-c : goal.invariant-loop-c
invariant-loop-c l = IsUtf8 (chars_rest l.c-iterator) × (l.found ++ elements_from l.word (chars (chars_rest l.c-iterator)) ≡ list_elements l.text)
