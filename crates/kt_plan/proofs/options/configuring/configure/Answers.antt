use Rattle.std.proofs.Common.{rules}
use Rattle.kt_plan.proofs.Configurations.{configured_not, configured_both, configured_short}
use Rattle.kt_plan.proofs.options.configuring.configure.Goals as goal

pub returns-in_err-config : goal.returns-in_err-config
returns-in_err-config g c = configured_not g.W.World.replies _ _ c.args.options.now c.read_given_config.result _ _ (search rules) c.from_residual.ensures.1 c.read_given_config.ensures

pub returns-in_err-set_arguments : goal.returns-in_err-set_arguments
returns-in_err-set_arguments g c =
    configured_short g.W.World.replies _ _ c.args.options.now c.read_given_config.result _ c.in_ok-config.config _ (search rules) c.from_residual-in_err-set_arguments.ensures.1 c.read_given_config.ensures

pub returns : goal.returns
returns g c =
    configured_both g.W.World.replies _ _ c.args.options.now c.read_given_config.result c.in_ok-set_arguments.field-0 c.in_ok-config.config (search rules) (search rules) c.read_given_config.ensures
