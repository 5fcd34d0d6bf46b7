use Rattle.std.proofs.Common.{rules, ◌∙◌, ap}
use Rattle.kt_os.proofs.Common.{process_state_in}
use Rattle.kt_os.proofs.HostStandings.{others_stay}
use Rattle.kt_os.proofs.host.children.keep_output.Goals as goal

pub returns-in-Some-clause-others : goal.returns-in-Some-clause-others
returns-in-Some-clause-others g c =
    others_stay (λ a b. search rules) _ _ c.args.child ((c.get_mut.follows.holds c.keep_file.new.self).3 (search rules)).2

pub returns-clause-others : goal.returns-clause-others
returns-clause-others g c k e =
    let kept = others_stay (λ a b. search rules) _ c.insert.new.self.entries c.args.child c.in_ok-insert.ensures.updates.2 in
    kept k e ∙ ap (λ m. process_state_in m.entries k) c.get_mut.follows.holds-at-none
