use Rattle.std.proofs.Common.{◌∷◌, refl, sym, subst}
use Rattle.kt_child.proofs.Common.{Role, SetLimit, SpawnsInRole}
use Rattle.kt_child.proofs.driving.starts.spawn_by_plan.Goals as goal

pub returns-in-Body : goal.returns-in-Body
returns-in-Body g c =
    let p = c.args.plan.now in
    let s = c.spawn_in_new_dir.ensures in
    let R : Role → Type 0 = λ r. SpawnsInRole r p s.0 c.spawn_in_new_dir.result in
    (SetLimit p.child p.limit ∷ s.0, (_, c.set_limit.ensures, s.1), (s.0, refl, subst R (sym c.in-Body.is) s.2))

pub returns-in-Cleanup : goal.returns-in-Cleanup
returns-in-Cleanup g c =
    let p = c.args.plan.now in
    let s = c.spawn_in_existing_dir.ensures in
    let R : Role → Type 0 = λ r. SpawnsInRole r p s.0 c.spawn_in_existing_dir.result in
    (SetLimit p.child p.limit ∷ s.0, (_, c.set_limit.ensures, s.1), (s.0, refl, subst R (sym c.in-Cleanup.is) s.2))
