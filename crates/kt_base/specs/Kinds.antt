-- The kinds of verdicts.
use Rattle.std.specs.Prelude.{ℕ, Bool, true, false, List, codes}
use Rattle.kt_base.specs.declared.verdict.Kind.{Kind}
use Rattle.kt_base.specs.declared.verdict.Kind.TheVariants.{Passed, Skipped, ExpectedFailure, Failed, Broken}

-- `good kind`: a verdict of the kind `kind` counts as a success.
abbrev pub good : Kind → Bool
good Passed = true
good Skipped = true
good ExpectedFailure = true
good Failed = false
good Broken = false

-- `kind_keyword kind`: the keyword of the kind `kind` in reports.
abbrev pub kind_keyword : Kind → List ℕ
kind_keyword Passed = codes "passed"
kind_keyword Skipped = codes "skipped"
kind_keyword ExpectedFailure = codes "expected_failure"
kind_keyword Failed = codes "failed"
kind_keyword Broken = codes "broken"
