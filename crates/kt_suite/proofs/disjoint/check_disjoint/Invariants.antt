use Rattle.std.proofs.Common.{◌≡◌, ℕ, ◌<◌, None}
use Rattle.kt_suite.proofs.Common.{overlap_fault}
use Rattle.kt_suite.proofs.disjoint.check_disjoint.Given as goal

-- No filter before this position has an error.
abbrev pub invariant-loop-position : goal.invariant-loop-position
invariant-loop-position l = (before : ℕ) → before < l.position → overlap_fault l.filters before ≡ None
