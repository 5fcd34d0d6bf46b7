use Rattle.std.proofs.Common.{Err, refl}
use Rattle.kt_cli.proofs.Common.{Finished, NoRun}
use Rattle.kt_cli.proofs.FailedCalls.{fails}
use Rattle.kt_cli.proofs.no_store.NoStoreResultStore.finish.Goals as goal

pub returns : goal.returns
returns c = fails (Finished c.args._run (Err NoRun)) _ _ (λ runs. refl)
