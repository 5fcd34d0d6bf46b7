use Rattle.std.proofs.Common.{drop}
use Rattle.kt_plan.proofs.Wanting.{AreAmong, IsAhead}
use Rattle.kt_plan.proofs.cases.offering.has_possible_match.Given as goal

-- The remaining filters are among all filters, and if any filter may match a case, one of them may.
abbrev pub invariant-loop-filter : goal.invariant-loop-filter
invariant-loop-filter l = record {
  among : AreAmong (drop l.filter-index l.filters) l.filters;
  ahead : IsAhead (drop l.filter-index l.filters) l.filters l.path;
}
