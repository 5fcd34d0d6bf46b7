use Rattle.std.proofs.Common.{None, Ok, refl}
use Rattle.kt_cli.proofs.Common.{Head}
use Rattle.kt_cli.proofs.FailedCalls.{fails}
use Rattle.kt_cli.proofs.no_store.NoStoreResultStore.head.Goals as goal

pub returns-clause-served : goal.returns-clause-served
returns-clause-served c = fails (Head c.args._number (Ok None)) _ _ (λ runs. refl)
