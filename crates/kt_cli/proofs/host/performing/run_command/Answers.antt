use Rattle.std.proofs.Common.{refl}
use Rattle.kt_cli.specs.LineOutputs.{given_bytes}
use Rattle.kt_cli.proofs.Common.{no_file}
use Rattle.kt_cli.proofs.host.performing.run_command.Goals.{in-Some, in-None}
use Rattle.kt_cli.proofs.host.performing.run_command.Goals as goal

pub returns : goal.returns
returns g c = rw c.in-Ok.is (
  given_bytes g.W.Write.contents c.match-results_file.out,
  c.match-results_file.outside.0.status,
  elim c.match-results_file.branch [
    | in-Some w ↦ rw (← w.in-Some.ensures, w.platform-is, w.out-is, w.outside-is) w.execute_in_file.ensures
    | in-None w ↦ rw (← w.in-None.ensures, w.platform-is, w.out-is, w.outside-is) (no_file w.execute_over_store.ensures)
  ],
  c.finish.ensures,
  refl,
)
