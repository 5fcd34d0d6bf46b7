-- Characters and texts, escaped for XML.
use Rattle.std.specs.Prelude.{ℕ, Bool, if◌then◌else◌, ◌==◌, nat_lt, ◌||◌, List, [], ◌∷◌, codes, flat_map}

-- `allowed_or_question_mark c`: the character `c`, or a question mark if `c` is below 32, or is
-- U+FFFE or U+FFFF. `escaped` handles the characters below 32 that XML allows, before it uses
-- `allowed_or_question_mark`.
abbrev pub allowed_or_question_mark : ℕ → List ℕ
allowed_or_question_mark c = if nat_lt c 32 || c == 65534 || c == 65535 then codes "?" else c ∷ []

-- `escaped attribute c`: the character `c`, escaped for an XML attribute if `attribute` is true,
-- otherwise for content. In an attribute, tab and newline are written as numeric references. A
-- character that XML doesn't allow becomes a question mark.
abbrev pub escaped : Bool → ℕ → List ℕ
escaped attribute c =
    if c == 38 then codes "&amp;" else if c == 60 then codes "&lt;" else if c == 62 then codes "&gt;" else if c == 34 then codes "&quot;" else if c == 13 then codes "&#13;"
    else if c == 9 then (if attribute then codes "&#9;" else c ∷ []) else if c == 10 then (if attribute then codes "&#10;" else c ∷ []) else allowed_or_question_mark c

-- `escaped_text attribute text`: `text` with each character escaped, for an XML attribute if
-- `attribute` is true, otherwise for content.
abbrev pub escaped_text : Bool → List ℕ → List ℕ
escaped_text attribute text = flat_map (escaped attribute) text
