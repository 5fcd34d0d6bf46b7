-- The cases that a filter matches.
use Rattle.std.specs.Prelude.{ℕ, ◌≡◌, Bool, true, false, ◌==◌, ◌&&◌, ◌⊎◌, IsTrue, List, [], ◌∷◌, ◌++◌, Option, Some, None, bytes_eq}
use Rattle.kt_suite.specs.Types.{Filter}

-- `is_within directory path`: the path `path` is `directory`, or begins with `directory` and a
-- slash.
abbrev pub is_within : List ℕ → List ℕ → Bool
is_within [] [] = true
is_within [] (c ∷ path) = c == 47
is_within (d ∷ directory) [] = false
is_within (d ∷ directory) (c ∷ path) = d == c && is_within directory path

-- `IsWithin directory path`: the path `path` is the directory `directory`, or consists of
-- `directory`, a slash (47) and any text. `is_within` computes whether this holds.
abbrev pub IsWithin : List ℕ → List ℕ → Type 0
IsWithin directory path = (path ≡ directory) ⊎ ((rest : List ℕ) × (path ≡ directory ++ 47 ∷ rest))

-- `parts_match program case path case_name`: the filter with the path `program` and the optional
-- case `case` matches the test case `case_name` of the program at `path`.
abbrev pub parts_match : List ℕ → Option (List ℕ) → List ℕ → List ℕ → Bool
parts_match program None path case_name = is_within program path
parts_match program (Some own) path case_name = bytes_eq path program && bytes_eq case_name own

-- `matches filter path case_name`: the filter `filter` matches the test case `case_name` of the
-- program at `path`.
abbrev pub matches : Filter → List ℕ → List ℕ → Bool
matches filter path case_name = parts_match filter.program filter.case_name path case_name

-- `MayMatch filter path`: the filter `filter` matches some test case that the program at `path`
-- could have.
abbrev pub MayMatch : Filter → List ℕ → Type 0
MayMatch filter path = (case_name : List ℕ) × IsTrue (matches filter path case_name)
