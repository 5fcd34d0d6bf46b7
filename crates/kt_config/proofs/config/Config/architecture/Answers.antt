use Rattle.std.proofs.Common.{rules}
use Rattle.kt_config.proofs.Common.{chars}
use Rattle.kt_config.proofs.config.Config.architecture.Goals as goal

pub returns-in-None : goal.returns-in-None
unfolding chars
returns-in-None c = search rules
