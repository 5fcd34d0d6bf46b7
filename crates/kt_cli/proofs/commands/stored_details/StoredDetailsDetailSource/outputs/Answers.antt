use Rattle.std.proofs.Common.{refl}
use Rattle.kt_cli.proofs.StoreChains.{stored_call}
use Rattle.kt_cli.proofs.commands.stored_details.StoredDetailsDetailSource.outputs.Goals as goal

pub returns : goal.returns
returns g c = (refl, refl, record { ends = (refl, stored_call g.R.StoreSpec _ _ _ c.in_ok-read.ensures) })
