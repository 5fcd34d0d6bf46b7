use Rattle.std.proofs.Common.{rules}
use Rattle.kt_status.proofs.EndRows.{refusal_only}
use Rattle.kt_status.proofs.verdict.refused_verdict.Goals as goal

pub returns-clause-row : goal.returns-clause-row
returns-clause-row c = (refusal_only c.args.refused c.broken.result (search rules)).0
