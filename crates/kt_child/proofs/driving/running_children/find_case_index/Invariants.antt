use Rattle.std.proofs.Common.{◌≡◌, ◌-◌, true, drop, length}
use Rattle.kt_child.proofs.Common.{is_among}
use Rattle.kt_child.proofs.driving.running_children.find_case_index.Given as goal

abbrev pub invariant-loop-place : goal.invariant-loop-place
invariant-loop-place l = is_among (drop l.place l.cases) l.position ≡ true

abbrev pub decreases-loop-place : goal.decreases-loop-place
decreases-loop-place l = length l.cases - l.place
