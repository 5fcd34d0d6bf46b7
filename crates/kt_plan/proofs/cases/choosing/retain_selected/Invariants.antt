use Rattle.std.proofs.Common.{◌≡◌, ◌++◌, ◌+◌, ◌≤◌, List, length}
use Rattle.kt_plan.proofs.Common.{Filter, selected_cases, selected_indexes}
use Rattle.kt_plan.proofs.cases.choosing.retain_selected.Given as goal

-- The cases so far, followed by the selected ones of the remaining cases, are all selected cases.
abbrev pub invariant-loop-candidate : goal.invariant-loop-candidate
invariant-loop-candidate l = record {
  room : l.place + length l.candidate-iterator.rest.items ≤ 100000;
  rest : (filters : List Filter) → l.places ≡ selected_indexes filters 0 l.fn.found
      → (l.rest ≡ selected_indexes filters l.place l.candidate-iterator.rest.items) × (l.cases ++ selected_cases filters l.candidate-iterator.rest.items ≡ selected_cases filters l.fn.found);
}
