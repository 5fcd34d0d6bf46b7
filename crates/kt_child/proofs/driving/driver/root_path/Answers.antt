use Rattle.kt_child.proofs.Common.{chars}
use Rattle.kt_child.proofs.driving.driver.root_path.Goals as goal

pub returns : goal.returns
unfolding chars
returns c = c.numbered_path.ensures
