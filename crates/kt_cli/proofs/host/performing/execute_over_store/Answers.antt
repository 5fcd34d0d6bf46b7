use Rattle.std.proofs.Common.{rules, refl}
use Rattle.kt_cli.proofs.Common.{done, needs_nothing, no_driver, no_surroundings, no_world}
use Rattle.kt_cli.proofs.DriverTraces.{courses_by_trace}
use Rattle.kt_cli.proofs.Testings.{did_called}
use Rattle.kt_cli.proofs.host.performing.execute_over_store.Goals as goal

pub returns-in_default : goal.returns-in_default
returns-in_default g c = needs_nothing (search rules) refl (did_called no_world g.S.StoreSpec _ tt _ _ _ _ _ c.execute_report.ensures)

pub returns-in-Err : goal.returns-in-Err
returns-in-Err g c = no_surroundings c.in-Some.options.now c.in-Err.fault (search rules) c.in-Err.ensures refl refl (rw c.from.ensures at c.print_driver_fault.ensures)

pub returns-in-Err-create_world : goal.returns-in-Err-create_world
returns-in-Err-create_world g c =
    no_driver c.in-Some.options.now c.in-Ok.around c.in-Err-create_world.fault (search rules) c.in-Ok.ensures c.in-Err-create_world.ensures.refused refl
    c.print_driver_fault-in-Err-create_world.ensures

pub returns : goal.returns
returns g c =
    let first = c.in-Ok-create_world.world in
    let begun = c.in-Ok-create_world.ensures.first in
    let did = c.execute-exit.ensures.did in
    done c.in-Some.options.now c.in-Ok.around first c.execute-exit.new.world (search rules) c.in-Ok.ensures begun did
    (courses_by_trace g.M.HostFiles g.O.Os did.seen _ _ did.course begun.made.none_runs) refl c.close-os.ensures.0 c.close-os.ensures.1
