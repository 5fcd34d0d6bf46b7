use Rattle.std.proofs.Common.{◌≡◌, drop}
use Rattle.kt_plan.proofs.Common.{values_after, filters_of}
use Rattle.kt_plan.proofs.options.case_filters.parse_filters.Given as goal

-- The filters so far, followed by those of the remaining arguments, are all filters.
abbrev pub invariant-loop-word : goal.invariant-loop-word
invariant-loop-word l = filters_of l.words ≡ values_after l.filters (filters_of (drop l.word-index l.words))
