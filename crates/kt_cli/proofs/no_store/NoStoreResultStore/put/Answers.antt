use Rattle.std.proofs.Common.{Err, refl}
use Rattle.kt_cli.proofs.Common.{NoRun, Put}
use Rattle.kt_cli.proofs.FailedCalls.{fails}
use Rattle.kt_cli.proofs.no_store.NoStoreResultStore.put.Goals as goal

pub returns : goal.returns
returns c = fails (Put c.args._run c.args._entry.now (Err NoRun)) _ _ (λ runs. refl)
