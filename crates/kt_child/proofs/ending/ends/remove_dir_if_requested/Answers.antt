use Rattle.std.proofs.Common.{◌∷◌, [], List, refl, is_ok}
use Rattle.kt_child.proofs.Common.{Call, RemoveTree}
use Rattle.kt_child.proofs.ending.ends.remove_dir_if_requested.Goals as goal

pub returns-then-removed : goal.returns-then-removed
returns-then-removed g c =
    let calls : List Call = RemoveTree c.args.dir.now (is_ok c.remove_tree.result) ∷ [] in
    (calls, (_, c.remove_tree.ensures, refl), rw c.if-removed.true (_, refl))
