use Rattle.std.proofs.Common.{◌++◌, refl}
use Rattle.kt_child.proofs.Chains.{chain_append}
use Rattle.kt_child.proofs.driving.lists.run_list.Goals as goal

pub returns-in-Ok : goal.returns-in-Ok
returns-in-Ok g c =
    let s = c.in-Ok.ensures in
    let l = c.await_list-outcome.ensures in
    (s.0 ++ l.0, chain_append g.O.Os.leads _ _ _ s.0 l.0 s.1 l.1, (s.0, l.0, refl, s.2, l.2))
