use Rattle.kt_cli.proofs.Common.{world_of}
use Rattle.kt_cli.proofs.SoundRuns.{left_by}
use Rattle.kt_cli.proofs.commands.execution.theorem_of_sound_stores.Goals as goal

pub returns : goal.returns
returns g x c old new exit runs did h sound = left_by (world_of g.W.Tree g.W.Launcher g.W.World) g.R.StoreSpec c old new exit runs did h sound
