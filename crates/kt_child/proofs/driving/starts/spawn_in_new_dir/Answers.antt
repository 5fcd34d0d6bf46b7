use Rattle.std.proofs.Common.{[], ◌∷◌, ◌++◌, Ok, Err, refl, ap, inl, inr}
use Rattle.kt_child.proofs.Common.{MakeDir}
use Rattle.kt_child.proofs.Chains.{chain_append}
use Rattle.kt_child.proofs.driving.starts.spawn_in_new_dir.Goals as goal

pub returns-in-Err : goal.returns-in-Err
returns-in-Err g c =
    (MakeDir c.args.plan.now.dir (Err c.in-Err.fault) ∷ [], (_, c.in-Err.ensures, refl), inl (c.in-Err.fault, refl, ap Err c.refusal_cause.ensures))

pub returns : goal.returns
returns g c =
    let t = c.spawn_in_work_dir-tried.ensures in
    let u = c.remove_dir_if_requested.ensures in (
      MakeDir c.args.plan.now.dir (Ok tt) ∷ (t.0 ++ u.0),
      (_, c.in_default.ensures, chain_append g.O.Os.leads _ _ _ t.0 u.0 t.1 u.1),
      inr (t.0 ++ u.0, refl, (t.0, u.0, refl, t.2, rw c.is_err.ensures.value at u.2)),
    )
