use Rattle.kt_dbfile.proofs.Common.{Head, refl}
use Rattle.kt_store.proofs.HeadLemmas.{asked_for, one_head}
use Rattle.kt_dbfile.proofs.SeenLemmas.{looked_serves, looks_then, still_has}
use Rattle.kt_dbfile.proofs.result_trees.ResultTrees.read_head.Goals as goal

pub returns-clause-served : goal.returns-clause-served
returns-clause-served g c =
    let first = looks_then g.S.Store _ _ _ c.read_last_number.ensures.looks.0 c.check_last_run.ensures.looks.0 in
    looked_serves g.S.Store _ _ (looks_then g.S.Store _ _ _ first c.require_head.ensures.looks) (Head c.args.number _) (λ runs. refl) (λ runs may left. left) (λ runs has clean.
    let last = c.in_ok-last.ensures.last runs has (c.check_last_run.ensures.looks.0.clean (c.require_head.ensures.looks.clean clean)) in
    let found = c.in_ok-head.ensures.head runs (still_has g.S.Store _ _ first runs has) clean in
    one_head runs c.args.number c.in_ok-last.last c.unwrap_or-number.result last c.unwrap_or-number.ensures c.in_ok-head.head found)

pub returns-clause-numbered : goal.returns-clause-numbered
returns-clause-numbered g c = asked_for c.args.number c.in_ok-last.last c.unwrap_or-number.result c.in_ok-head.head c.unwrap_or-number.ensures c.in_ok-head.ensures.numbered
