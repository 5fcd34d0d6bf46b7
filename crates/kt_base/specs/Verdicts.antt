-- Verdicts in contracts: a kind and the text of the reason.
use Rattle.std.specs.Prelude.{ℕ, List, []}
use Rattle.kt_base.specs.declared.verdict.Kind.{Kind}
use Rattle.kt_base.specs.declared.verdict.Kind.TheVariants.{Passed, Skipped, ExpectedFailure, Failed, Broken}

-- `VerdictValue`: the value of a verdict in contracts: its kind and the text of its reason.
pub record VerdictValue : Type 0 where
  pub kind : Kind
  pub reason : List ℕ

-- `passed`: the verdict on a case that passed, without a reason.
abbrev pub passed : VerdictValue
passed = record { kind = Passed; reason = [] }

-- `skipped reason`: the verdict on a case that was skipped for `reason`.
abbrev pub skipped : List ℕ → VerdictValue
skipped reason = record { kind = Skipped; reason = reason }

-- `expected_failure reason`: the verdict on a case that failed as announced, for `reason`.
abbrev pub expected_failure : List ℕ → VerdictValue
expected_failure reason = record { kind = ExpectedFailure; reason = reason }

-- `failed reason`: the verdict on a case that failed for `reason`.
abbrev pub failed : List ℕ → VerdictValue
failed reason = record { kind = Failed; reason = reason }

-- `broken reason`: the verdict on a case that could not be run or judged, for `reason`.
abbrev pub broken : List ℕ → VerdictValue
broken reason = record { kind = Broken; reason = reason }
