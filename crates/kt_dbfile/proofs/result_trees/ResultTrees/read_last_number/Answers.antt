use Rattle.kt_dbfile.proofs.Common.{AreNumbered, HasRuns, IsClean, List, Run, length, map, run_row, ◌≡◌}
use Rattle.kt_dbfile.proofs.PlaceLemmas.{last_is, none_is}
use Rattle.kt_dbfile.proofs.SeenLemmas.{rows_of_runs}
use Rattle.kt_dbfile.proofs.result_trees.ResultTrees.read_last_number.Given.{Over}
use Rattle.kt_dbfile.proofs.result_trees.ResultTrees.read_last_number.Goals.{In_ok-row}
use Rattle.kt_dbfile.proofs.result_trees.ResultTrees.read_last_number.Goals as goal

-- the runs are numbered, and the tree of their table has their rows
rows_are : (g : Over) (c : In_ok-row g) (runs : List Run) → HasRuns (g.S.Store.view c.args.self.now.store) runs → IsClean (g.S.Store.view c.read_last_row.new.self.store)
    → AreNumbered 1 runs × ((g.S.Store.view c.args.self.now.store).trees 2 ≡ map run_row runs)
rows_are g c runs has clean =
    let first = c.read_last_row.ensures.looks.0.clean clean in
    let sound = (c.in_ok-row.ensures.looks.1 clean).0 in
    let keeps = has first sound in
    (keeps.3.valid.numbered, rows_of_runs runs _ keeps)

pub returns-in_default-clause-last : goal.returns-in_default-clause-last
returns-in_default-clause-last g c runs has clean =
    let it = rows_are g (goal.at.returns-in_default-clause-last g c).In_ok-row runs has clean in
    none_is runs ((g.S.Store.view c.args.self.now.store).trees 2) it.1 (rw c.in_default.is at (c.in_ok-row.ensures.last clean))

pub returns-clause-last : goal.returns-clause-last
returns-clause-last g c runs has clean =
    let it = rows_are g (goal.at.returns-clause-last g c).In_ok-row runs has clean in
    let found = rw c.in-Some.is at (c.in_ok-row.ensures.last clean) in
    c.in_ok-number.ensures (length runs) (last_is runs ((g.S.Store.view c.args.self.now.store).trees 2) found.0 _ it.0 it.1 found.1)
