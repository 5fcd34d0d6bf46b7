use Rattle.std.proofs.Common.{◌≡◌, length}
use Rattle.kt_doubles.proofs.Common.{IsPlan}
use Rattle.kt_doubles.proofs.plans.create_plan.Given as goal

-- The jobs that were created so far are a plan, and `position` is their number.
abbrev pub invariant-loop-letter : goal.invariant-loop-letter
invariant-loop-letter l = record { plan : IsPlan l.jobs.items; count : length l.jobs.items ≡ l.position }
