use Rattle.kt_base.proofs.Common.{decimal, encodes-IsAscii}
use Rattle.kt_base.proofs.decimal.Decimal.from_u128.Goals as goal

pub returns-clause-ascii : goal.returns-clause-ascii
returns-clause-ascii c = encodes-IsAscii (decimal c.args.n) c.write-start.ensures.ascii
