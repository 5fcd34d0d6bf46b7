use Rattle.kt_base.proofs.Showing.{shows_cut}
use Rattle.kt_base.proofs.emission.emit.Goals as goal

pub returns-then-failed : goal.returns-then-failed
returns-then-failed g c = shows_cut _ _ c.write_until_failure-failed.result.0 c.args.bytes.now (c.write_until_failure-failed.ensures.short c.if-failed.true) c.write_until_failure-failed.ensures.sent
