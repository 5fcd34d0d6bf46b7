use Rattle.std.proofs.Common.{◌≡◌, ◌++◌, drop, map}
use Rattle.kt_plan.proofs.Common.{item_of}
use Rattle.kt_plan.proofs.cases.choosing.create_items.Given as goal

-- The items so far, followed by the items of the remaining cases, are the items of all cases.
abbrev pub invariant-loop-candidate : goal.invariant-loop-candidate
invariant-loop-candidate l = l.items.items ++ map item_of (drop l.candidate-index l.candidates) ≡ map item_of l.candidates
