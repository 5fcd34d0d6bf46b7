use Rattle.std.proofs.Common.{[], ◌∷◌, ◌++◌, refl}
use Rattle.kt_child.proofs.Common.{Now}
use Rattle.kt_child.proofs.Chains.{chain_append}
use Rattle.kt_child.proofs.driving.starts.start_child.Goals as goal

pub returns-in-Ok-clause-asked : goal.returns-in-Ok-clause-asked
returns-in-Ok-clause-asked g c =
    let s = c.in-Ok.ensures in
    let a = c.moment.ensures.asked in
    (s.0 ++ Now a.0 ∷ [], chain_append g.O.Os.leads _ _ _ s.0 (Now a.0 ∷ []) s.1 (_, a.1, refl), (s.0, a.0, refl, s.2, a.2))
