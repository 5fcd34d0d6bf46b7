use Rattle.std.proofs.Common.{Err, refl}
use Rattle.kt_cli.proofs.Common.{NoRun, Pairs}
use Rattle.kt_cli.proofs.FailedCalls.{fails}
use Rattle.kt_cli.proofs.no_store.NoStoreResultStore.properties.Goals as goal

pub returns : goal.returns
returns c = fails (Pairs c.args._run c.args._position (Err NoRun)) _ _ (λ runs. refl)
