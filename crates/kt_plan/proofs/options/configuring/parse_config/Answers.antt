use Rattle.std.proofs.Common.{rules}
use Rattle.kt_plan.proofs.Configurations.{read_config_file, refused_config_file}
use Rattle.kt_plan.proofs.options.configuring.parse_config.Goals as goal

pub returns-in-Ok : goal.returns-in-Ok
returns-in-Ok c = read_config_file c.args.bytes.now c.in-Ok.config c.in-Ok.ensures.accepted

pub returns-in-Err : goal.returns-in-Err
returns-in-Err c = refused_config_file c.args.bytes.now c.in-Err.fault (search rules)
