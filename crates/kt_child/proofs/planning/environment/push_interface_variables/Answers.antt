use Rattle.kt_child.proofs.Common.{chars}
use Rattle.kt_child.proofs.planning.environment.push_interface_variables.Goals as goal

pub returns-in-Atf : goal.returns-in-Atf
unfolding chars
returns-in-Atf c = rw c.in-Atf.is c.push_variable.ensures
