use Rattle.kt_plan.proofs.Chains.{idle_after}
use Rattle.kt_plan.proofs.Collections.{tree_stopped, lists_stopped, all_chosen, few_chosen}
use Rattle.kt_plan.proofs.cases.collecting.load_and_select.Goals as goal

pub returns-in-Err-clause-collected : goal.returns-in-Err-clause-collected
returns-in-Err-clause-collected g c =
    tree_stopped g.W.Tree.asks g.W.World.replies c.args.settings.now c.args.kyuafile.now c.args.world.now c.load_programs.new.tree c.in-Err.fault c.tree_error.result c.in-Err.ensures.loaded c.tree_error.ensures

pub returns-in-Err-clause-idle : goal.returns-in-Err-clause-idle
returns-in-Err-clause-idle g c =
    let a = c.load_programs.ensures.loaded in
    idle_after g.W.Tree.asks g.W.Launcher.running g.W.Launcher.pending g.met.W.World.tree_keeps_running g.met.W.World.tree_keeps_pending c.args.world.now c.load_programs.new.tree a.asked a.chain c.requires

pub list_all_cases-requires : goal.list_all_cases-requires
list_all_cases-requires g c =
    let a = c.load_programs.ensures.loaded in
    idle_after g.W.Tree.asks g.W.Launcher.running g.W.Launcher.pending g.met.W.World.tree_keeps_running g.met.W.World.tree_keeps_pending c.args.world.now c.load_programs.new.tree a.asked a.chain c.requires

pub returns-in_err-found-clause-collected : goal.returns-in_err-found-clause-collected
returns-in_err-found-clause-collected g c =
    lists_stopped g.W.Tree.asks g.W.World.replies c.args.settings.now c.args.kyuafile.now c.args.world.now c.load_programs.new.tree c.in-Ok.programs c.list_all_cases.new.world c.in-Ok.ensures.loaded c.as_slice.result.now c.from_residual.result _ c.as_slice.ensures c.in_err-found.ensures.offers c.from_residual.ensures.1

pub returns-clause-collected : goal.returns-clause-collected
returns-clause-collected g c =
    all_chosen g.W.Tree.asks g.W.World.replies c.args.settings.now c.args.kyuafile.now c.args.world.now c.load_programs.new.tree c.in-Ok.programs c.list_all_cases.new.world c.in-Ok.ensures.loaded c.as_slice.result.now c.as_slice-2.result.now c.in_ok-found.found c.as_slice.ensures c.as_slice-2.ensures c.in_ok-found.ensures.offers c.select_candidates.result c.select_candidates.ensures.chosen c.select_candidates.ensures.few c.select_candidates.ensures.stopped

pub returns-clause-few : goal.returns-clause-few
returns-clause-few g c = few_chosen c.as_slice-2.result.now c.in_ok-found.found c.select_candidates.result c.select_candidates.ensures.chosen c.select_candidates.ensures.few
