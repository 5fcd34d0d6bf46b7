use Rattle.std.proofs.Common.{rules, sym, ◌∙◌}
use Rattle.kt_os.proofs.HostStandings.{all_stay, changed}
use Rattle.kt_os.proofs.host.children.kill.Goals as goal

pub returns-in-Some-clause-stay : goal.returns-in-Some-clause-stay
returns-in-Some-clause-stay g c =
    let u = (c.get_mut.follows.holds c.kill.new.self).3 (search rules) in
    let w = changed (λ a b. search rules) _ _ c.args.child c.in-Some.held.now c.kill.new.self (sym c.in-Some.ensures.value) u.1 u.2 in
    all_stay c.args.child _ _ (w.1 ∙ c.kill.ensures.stands ∙ sym w.0) w.2
