use Rattle.std.proofs.Common.{◌≡◌, map, take}
use Rattle.kt_base.proofs.Common.{chars}
use Rattle.kt_base.proofs.text.Text.split.Given as goal

abbrev pub invariant-loop-part : goal.invariant-loop-part
invariant-loop-part l = l.parts ≡ map (λ x. chars x.now) (take l.part-index l.part-items)
