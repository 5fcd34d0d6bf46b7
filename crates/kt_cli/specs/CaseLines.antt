-- The lines that `list` prints.
use Rattle.std.specs.Prelude.{ℕ, List, ◌++◌, codes}
use Rattle.kt_cli.specs.Types.{Candidate}

-- `case_line candidate`: the line of the test case `candidate` in the output of `list`: its
-- program's path, a colon and its name.
abbrev pub case_line : Candidate → List ℕ
case_line candidate = candidate.path ++ codes ":" ++ candidate.case.name ++ codes "\n"
