use Rattle.std.proofs.Common.{◌≡◌, drop, map}
use Rattle.kt_base.specs.Common.{byte_keyword_row, value_of_keyword}
use Rattle.kt_base.proofs.words.value_of_keyword_bytes.Given as goal

abbrev pub invariant-loop-row : goal.invariant-loop-row
invariant-loop-row g l = value_of_keyword (map byte_keyword_row (drop l.row-index l.table)) l.word ≡ value_of_keyword (map byte_keyword_row l.table) l.word
