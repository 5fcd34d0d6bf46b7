use Rattle.std.proofs.Common.{List, [], ◌∷◌, ◌++◌, refl, is_ok}
use Rattle.kt_child.proofs.Common.{All-cons, All-nil, IsRunningChild, Call, ReadFile, RemoveTree, new_running_child}
use Rattle.kt_child.proofs.Chains.{chain_append}
use Rattle.kt_child.proofs.BoardSteps.{wait_heard}
use Rattle.kt_child.proofs.driving.lists.await_list.Goals as goal

pub returns : goal.returns
returns g c =
    let w = c.poll_until_finished-first.ensures.waited in
    let r = c.read_list-bytes.ensures.asked in
    let p = c.args.plan.now in
    let d = is_ok c.remove_tree.result in
    let on = rw c.new_running_child.ensures at w.2 in
    let k = new_running_child p.limit c.args.case in
    let heard = wait_heard (k ∷ []) w.0 c.poll_until_finished-first.result.index c.poll_until_finished-first.result.outcome _ (All-cons IsRunningChild k [] c.requires (All-nil IsRunningChild)) on in
    let last : List Call = ReadFile p.out 1048576 r.0 ∷ RemoveTree p.dir d ∷ [] in (
      w.0 ++ last,
      chain_append g.O.Os.leads _ _ _ w.0 last w.1 (_, r.1, (_, c.remove_tree.ensures, refl)),
      (
        c.poll_until_finished-first.result.index,
        c.poll_until_finished-first.new.children,
        w.0,
        r.0,
        d,
        refl,
        on,
        (heard.0, heard.1, heard.2),
        r.2,
        c.read_list-bytes.ensures.within,
      ),
    )
