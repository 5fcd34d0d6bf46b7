use Rattle.std.proofs.Common.{Err, refl}
use Rattle.kt_cli.proofs.Common.{Began, NoRun}
use Rattle.kt_cli.proofs.FailedCalls.{fails}
use Rattle.kt_cli.proofs.no_store.NoStoreResultStore.begin.Goals as goal

pub returns : goal.returns
returns c = fails (Began c.args._total c.args._moment (Err NoRun)) _ _ (λ runs. refl)
