use Rattle.kt_base.proofs.Fronts.{ends}
use Rattle.kt_base.proofs.lossy_text.lossy.Goals as goal

pub returns : goal.returns
returns c = ends c.loop-rest.text c.loop-rest.rest.now _ c.loop-rest.invariant c.loop-rest-test.ensures
