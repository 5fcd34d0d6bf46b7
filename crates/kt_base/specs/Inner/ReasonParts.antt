-- The text of a reason in parts that are written without an allocation.
use Rattle.std.specs.Prelude.{ℕ, List, [], ◌++◌, Option, Some, None}
use Rattle.std.specs.Str.{chars}
use Rattle.std.specs.Fmt.{decimal}
use Rattle.kt_base.specs.declared.verdict.ReasonParts.{ReasonParts}

-- `number_text number`: the text of the optional number `number`: its decimal digits, or an empty
-- text if `number` is absent.
abbrev pub number_text : Option ℕ → List ℕ
number_text None = []
number_text (Some n) = decimal n

-- `parts_text p`: the text of the reason with the parts `p`: the concatenation of the fields of
-- `p`, with numbers in decimal.
abbrev pub parts_text : ReasonParts → List ℕ
parts_text p = chars p.head.now ++ (chars p.lead.now ++ (number_text p.first ++ (chars p.between.now ++ (number_text p.second ++ chars p.tail.now))))
