use Rattle.kt_plan.proofs.Common.{err_from_is_err_and}
use Rattle.kt_plan.proofs.Chains.{asked_short, asked_four, idle_after}
use Rattle.kt_plan.proofs.LookLaws.{survey_stopped, surveyed}
use Rattle.kt_plan.proofs.plan.looking.probe_host.Goals as goal

pub returns-in_err-probe_all_needs-clause-surveyed : goal.returns-in_err-probe_all_needs-clause-surveyed
returns-in_err-probe_all_needs-clause-surveyed g c =
    let p = err_from_is_err_and c.from_residual.result c.from_residual.ensures.1 in
    asked_short g.W.World.replies c.args.world.now c.probe_all_needs.new.world _ _ c.from_residual.result p.0 p.1
    (survey_stopped g.W.World.replies c.args.cases.now c.args.world.now c.is_root-root.new.self c.memory-memory.new.self c.disk-disk.new.self c.probe_all_needs.new.world c.is_root-root.result c.memory-memory.result c.disk-disk.result c.is_root-root.ensures c.memory-memory.ensures c.disk-disk.ensures c.in_err-probe_all_needs.ensures)

pub returns-in_err-probe_all_needs-clause-idle : goal.returns-in_err-probe_all_needs-clause-idle
returns-in_err-probe_all_needs-clause-idle g c =
    let a = asked_four g.W.World.replies c.args.world.now c.is_root-root.new.self c.memory-memory.new.self c.disk-disk.new.self c.probe_all_needs.new.world _ _ _ _ c.is_root-root.ensures c.memory-memory.ensures c.disk-disk.ensures c.probe_all_needs.ensures in
    idle_after g.W.World.replies g.W.Launcher.running g.W.Launcher.pending g.met.W.World.host_keeps_running g.met.W.World.host_keeps_pending c.args.world.now c.probe_all_needs.new.world a.asked a.chain c.requires

pub returns-clause-surveyed : goal.returns-clause-surveyed
returns-clause-surveyed g c =
    surveyed g.W.World.replies c.args.cases.now c.args.world.now c.is_root-root.new.self c.memory-memory.new.self c.disk-disk.new.self c.probe_all_needs.new.world
    c.new-host.result c.probe_all_needs.new.host c.is_root-root.result c.memory-memory.result c.disk-disk.result c.new-host.ensures.root c.new-host.ensures.memory c.new-host.ensures.disk c.new-host.ensures.nothing
    c.is_root-root.ensures c.memory-memory.ensures c.disk-disk.ensures c.in_ok-probe_all_needs.ensures

pub returns-clause-idle : goal.returns-clause-idle
returns-clause-idle g c =
    let a = asked_four g.W.World.replies c.args.world.now c.is_root-root.new.self c.memory-memory.new.self c.disk-disk.new.self c.probe_all_needs.new.world _ _ _ _ c.is_root-root.ensures c.memory-memory.ensures c.disk-disk.ensures c.probe_all_needs.ensures in
    idle_after g.W.World.replies g.W.Launcher.running g.W.Launcher.pending g.met.W.World.host_keeps_running g.met.W.World.host_keeps_pending c.args.world.now c.probe_all_needs.new.world a.asked a.chain c.requires
