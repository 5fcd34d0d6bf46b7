use Rattle.std.proofs.Common.{refl, ◌∙◌}
use Rattle.kt_cli.proofs.Refusing.{none_asked}
use Rattle.kt_cli.proofs.host.host_execution.create_world.Goals as goal

pub returns-in-Err-clause-refused : goal.returns-in-Err-clause-refused
returns-in-Err-clause-refused g c = (none_asked g.O.Os c.args.outside.os _ _, refl)

pub returns-clause-first : goal.returns-clause-first
returns-clause-first g c = record { machine = refl; made = c.in-Ok-create_driver.ensures.made; directory = c.in-Ok.ensures ∙ c.directory.ensures; around_it = refl }
