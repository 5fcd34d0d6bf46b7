use Rattle.std.proofs.Common.{rules}
use Rattle.kt_status.proofs.EndRows.{cleanup_only}
use Rattle.kt_status.proofs.cleanup.with_cleanup.Goals as goal

pub returns-then-good : goal.returns-then-good
returns-then-good c = let it = cleanup_only c.args.body c.args.end c.verdict_after_good_body.result (search rules) in record { row = it.0; only = it.1 }

pub returns-else-good : goal.returns-else-good
returns-else-good c = let it = cleanup_only c.args.body c.args.end c.args.body (search rules) in record { row = it.0; only = it.1 }
