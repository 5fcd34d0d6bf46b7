-- The output and the exit status of `list`.
use Rattle.std.specs.Prelude.{ℕ, List, ◌++◌, flat_map, if◌then◌else◌}
use Rattle.kt_cli.specs.Types.{utf8}
use Rattle.kt_plan.specs.declared.cases.CaseSelection.{CaseSelection}
use Rattle.kt_cli.specs.CaseLines.{case_line}
use Rattle.kt_cli.specs.Testing.{all_matched}
use Rattle.kt_cli.specs.Warnings.{warnings}

-- `list_output words chosen`: the output of `list`: a line for each case of the selection `chosen`,
-- and a warning for each of the filters `words` that selects no case.
abbrev pub list_output : List (List ℕ) → CaseSelection → List ℕ
list_output words chosen = utf8 (flat_map case_line chosen.cases) ++ utf8 (warnings words chosen.unmatched)

-- `list_exit chosen`: the exit status of `list`: 0 if each filter of the selection `chosen`
-- selects a case, else 1.
abbrev pub list_exit : CaseSelection → ℕ
list_exit chosen = if all_matched chosen.unmatched then 0 else 1
