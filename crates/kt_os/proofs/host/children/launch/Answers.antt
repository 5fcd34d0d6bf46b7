use Rattle.std.proofs.Common.{rules}
use Rattle.kt_os.proofs.HostStandings.{others_stay}
use Rattle.kt_os.proofs.host.children.launch.Goals as goal

pub returns-in-Some-clause-others : goal.returns-in-Some-clause-others
returns-in-Some-clause-others g c = others_stay (λ a b. search rules) _ _ c.args.child ((c.get_mut.follows.holds c.launch.new.self).3 (search rules)).2
