use Rattle.std.proofs.Common.{Ok, []}
use Rattle.kt_os.proofs.machine.process_env.ProcessEnv.from_process.Goals as goal

pub returns-in-Err : goal.returns-in-Err
returns-in-Err g c = (Ok [], tt)
