use Rattle.std.proofs.Common.{refl, arith}
use Rattle.kt_claim.proofs.Lines.{none_read}
use Rattle.kt_claim.proofs.tap_reader.TapReader.new.Goals as goal

pub returns : goal.returns
returns c = (refl, (refl, omega arith, none_read c.new.result _ c.new.ensures c.new-2.ensures.items))
