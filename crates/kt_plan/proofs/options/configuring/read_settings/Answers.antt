use Rattle.std.proofs.Common.{rules}
use Rattle.kt_plan.proofs.Chains.{idle_after}
use Rattle.kt_plan.proofs.Settling.{all_settled, not_configured, not_filtered}
use Rattle.kt_plan.proofs.options.configuring.read_settings.Goals as goal

pub returns-in_err-config-clause-settled : goal.returns-in_err-config-clause-settled
returns-in_err-config-clause-settled g c =
    not_configured g.W.World.replies _ _ c.args.rule c.args.options.now c.configure.result _ _ (search rules) c.from_residual.ensures.1 c.configure.ensures

pub returns-in_err-config-clause-idle : goal.returns-in_err-config-clause-idle
returns-in_err-config-clause-idle g c =
    idle_after g.W.World.replies g.W.Launcher.running g.W.Launcher.pending g.met.W.World.host_keeps_running g.met.W.World.host_keeps_pending _ _ c.configure.ensures.asked c.configure.ensures.chain c.requires

pub returns-in_err-filters-clause-settled : goal.returns-in_err-filters-clause-settled
returns-in_err-filters-clause-settled g c =
    not_filtered g.W.World.replies _ _ c.args.rule c.args.options.now c.configure.result c.in_ok-config.config (search rules) c.configure.ensures
    c.read_filters.result _ _ (search rules) c.from_residual-in_err-filters.ensures.1 (search rules)

pub returns-in_err-filters-clause-idle : goal.returns-in_err-filters-clause-idle
returns-in_err-filters-clause-idle g c =
    idle_after g.W.World.replies g.W.Launcher.running g.W.Launcher.pending g.met.W.World.host_keeps_running g.met.W.World.host_keeps_pending _ _ c.configure.ensures.asked c.configure.ensures.chain c.requires

pub returns-clause-settled : goal.returns-clause-settled
returns-clause-settled g c =
    all_settled g.W.World.replies _ _ c.args.rule c.args.options.now c.configure.result c.in_ok-config.config (search rules) c.configure.ensures
    c.read_filters.result c.in_ok-filters.filters (search rules) (search rules)

pub returns-clause-idle : goal.returns-clause-idle
returns-clause-idle g c =
    idle_after g.W.World.replies g.W.Launcher.running g.W.Launcher.pending g.met.W.World.host_keeps_running g.met.W.World.host_keeps_pending _ _ c.configure.ensures.asked c.configure.ensures.chain c.requires
