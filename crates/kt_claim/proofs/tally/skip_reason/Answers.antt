use Rattle.std.proofs.Common.{arith}
use Rattle.kt_claim.proofs.Counts.{given}
use Rattle.kt_claim.proofs.tally.skip_reason.Goals as goal

pub returns-then-is_empty : goal.returns-then-is_empty
returns-then-is_empty c = given c.from_str.result c.args.reason.now (grind arith) c.from_str.ensures
