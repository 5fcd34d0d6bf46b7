use Rattle.std.proofs.Common.{◌≡◌, ◌++◌, drop, true}
use Rattle.kt_suite.proofs.Common.{all_positions, passing_positions}
use Rattle.kt_suite.proofs.selecting.all_positions.Given as goal

-- The positions so far, followed by the remaining positions, are all positions.
abbrev pub invariant-loop-filter : goal.invariant-loop-filter
invariant-loop-filter l = (l.all.items ++ passing_positions (λ f. true) l.place (drop l._filter-index l.filters) ≡ all_positions l.filters) × (l.place ≡ l._filter-index)
