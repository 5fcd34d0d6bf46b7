use Rattle.std.proofs.Common.{rules}
use Rattle.kt_os.proofs.HostStandings.{others_stay}
use Rattle.kt_os.proofs.host.children.remove_child.Goals as goal

pub returns-clause-others : goal.returns-clause-others
returns-clause-others g c = others_stay (λ a b. search rules) _ _ c.args.child c.in_ok-held.ensures.updates.2
