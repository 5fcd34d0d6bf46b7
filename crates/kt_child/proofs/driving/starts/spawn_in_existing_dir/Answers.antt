use Rattle.std.proofs.Common.{◌++◌, refl}
use Rattle.kt_child.proofs.Chains.{chain_append}
use Rattle.kt_child.proofs.driving.starts.spawn_in_existing_dir.Goals as goal

pub returns : goal.returns
returns g c =
    let t = c.open_and_spawn-tried.ensures in
    let u = c.remove_dir_if_requested.ensures in
    (t.0 ++ u.0, chain_append g.O.Os.leads _ _ _ t.0 u.0 t.1 u.1, (t.0, u.0, refl, t.2, rw c.is_err.ensures.value at u.2))
