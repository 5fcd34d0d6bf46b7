use Rattle.std.proofs.Common.{◌≡◌, ◌++◌}
use Rattle.kt_plan.proofs.Common.{candidates_of}
use Rattle.kt_plan.proofs.cases.offering.add_candidates.Given as goal

-- The candidates so far, followed by those for the remaining cases, are all candidates.
abbrev pub invariant-loop-case : goal.invariant-loop-case
invariant-loop-case l = l.found ++ candidates_of l.program l.case-iterator.rest.items ≡ l.fn.found ++ candidates_of l.program l.fn.cases
