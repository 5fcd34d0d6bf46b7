-- Names of cases, and the keys of sets of names.
use Rattle.std.specs.Prelude.{ℕ, List, [], ◌∷◌, ◌++◌, Option, Some, None, chars, map}
use Rattle.std.specs.String.{string_bytes}
use Rattle.std.specs.declared.string.String.{String}
use Rattle.kt_atflist.specs.declared.listing.CaseDef.{CaseDef}

-- `characters key`: the characters that the bytes of the string `key` encode.
abbrev pub characters : {Z : Type 0} → String Z → List ℕ
characters key = chars (string_bytes key)

-- `name_of case`: the name of the test case `case`.
abbrev pub name_of : CaseDef → List ℕ
name_of case = case.name

-- `names_of cases block`: the names of the cases `cases`, followed by the name of the case of the
-- block `block` if the block is present.
abbrev pub names_of : List CaseDef → Option CaseDef → List (List ℕ)
names_of cases None = map name_of cases
names_of cases (Some case) = map name_of cases ++ case.name ∷ []
