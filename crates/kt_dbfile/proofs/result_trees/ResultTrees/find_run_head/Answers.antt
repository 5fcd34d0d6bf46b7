use Rattle.kt_dbfile.proofs.result_trees.ResultTrees.find_run_head.Goals as goal

pub returns-clause-found : goal.returns-clause-found
returns-clause-found g c runs has clean =
    let it = c.in_ok-row.ensures.found runs has clean in
    (it.0, it.1, c.in_ok-head.ensures.head it.0 it.2, it.3)
