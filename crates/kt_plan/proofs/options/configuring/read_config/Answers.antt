use Rattle.std.proofs.Common.{rules}
use Rattle.kt_plan.proofs.Configurations.{file_seen, file_short, file_unread}
use Rattle.kt_plan.proofs.options.configuring.read_config.Goals as goal

pub returns-in_err-parse_config-in-Ok : goal.returns-in_err-parse_config-in-Ok
returns-in_err-parse_config-in-Ok g c = file_short g.W.World.replies _ _ c.args.path.now c.config.result _ _ c.config.ensures c.from_residual.ensures.1

pub returns-in_ok-parse_config-in-Ok : goal.returns-in_ok-parse_config-in-Ok
returns-in_ok-parse_config-in-Ok g c = file_seen g.W.World.replies _ _ c.args.path.now c.in-Ok.bytes c.config.result _ c.config.ensures (search rules) (search rules)

pub returns-in-Err : goal.returns-in-Err
returns-in-Err g c = rw c.config_read_error.ensures (file_unread g.W.World.replies _ _ c.args.path.now c.config.result c.in-Err.fault c.config.ensures c.in-Err.is)
