use Rattle.std.proofs.Common.{◌≡◌, drop, map}
use Rattle.kt_base.specs.Common.{value_of_keyword, keyword_row}
use Rattle.kt_base.proofs.words.value_of_keyword.Given as goal

abbrev pub invariant-loop-row : goal.invariant-loop-row
invariant-loop-row g l = value_of_keyword (map keyword_row (drop l.row-index l.table)) l.word ≡ value_of_keyword (map keyword_row l.table) l.word
