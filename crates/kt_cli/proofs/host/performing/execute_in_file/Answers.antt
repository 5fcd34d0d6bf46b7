use Rattle.std.proofs.Common.{refl}
use Rattle.kt_cli.proofs.Common.{not_opened, closed}
use Rattle.kt_cli.proofs.host.performing.execute_in_file.Goals as goal

pub returns-in-Err : goal.returns-in-Err
returns-in-Err g c =
    not_opened _ c.in-Err.fault (rw c.command_access.ensures at c.in-Err.ensures) refl c.print_store_fault.ensures

pub returns : goal.returns
returns g c =
    closed _ c.in-Ok.results c.execute_over_store-outside.new.results c.open.new.self c.execute_over_store-outside.new.platform
    (g.W.Write.contents c.execute_over_store-outside.new.out) c.execute_over_store-outside.result.0.status c.close-closed.result
    (rw c.command_access.ensures at c.in-Ok.ensures) c.execute_over_store-outside.ensures c.close-closed.ensures c.print_close_fault.ensures
