use Rattle.kt_os.proofs.Common.{chars}
use Rattle.kt_os.proofs.host.outputs.queue_path.Goals as goal

pub returns : goal.returns
unfolding chars
returns c = c.numbered_path.ensures
