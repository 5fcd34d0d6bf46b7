use Rattle.kt_store.proofs.Common.{HasCleanDisk, IsDatabase, IsSettledWithRuns, IsTrue, IsSchema2Of, List, MayChange, Run, SFits, StandsFor, [], ap, arith, greatest_run_number, length, new_run, pos, rules, state, suc, survives_weaker, to_z-of_z, unsigned_abs, w64, ◌++◌, ◌<◌, ◌∙◌, ◌∷◌, ◌≡◌}
use Rattle.kt_store.proofs.BeginLemmas.{executed_begin, crash_begin, leaves_commit}
use Rattle.kt_store.proofs.SqlFacts.{begin_is}
use Rattle.kt_store.proofs.run_rows.add_run.Given.{Over}
use Rattle.kt_store.proofs.run_rows.add_run.Goals.{After-execute, In_ok-execute}
use Rattle.kt_store.proofs.run_rows.add_run.Goals as goal

pub execute-requires : goal.execute-requires
execute-requires g c = begin_is.1

-- a crash leaves what it left before, or the runs with the new run appended
crash : (g : Over) (c : After-execute g) → MayChange g.S.Store c.args.conn.now c.execute.new.conn (λ runs. length runs < greatest_run_number) (λ runs. runs ++ new_run runs c.args.total c.args.moment ∷ [])
crash g c runs has room =
    survives_weaker (state g.S.Store c.args.conn.now) (state g.S.Store c.execute.new.conn) _ (IsSchema2Of (runs ++ new_run runs c.args.total c.args.moment ∷ []))
    (crash_begin g.S.Store c.args.conn.now c.execute.new.conn runs c.args.total c.args.moment has room (omega (arith, c.ranges.total.fits)) (λ k. omega (arith, k, c.execute.ensures.survives.clean)))
    (rw (c.int_value.ensures, c.int_value-2.ensures, c.from.ensures) at c.execute.ensures.survives)

-- after the INSERT, the tables represent the runs with the new run appended, and the last rowid is
-- its number
begun : (g : Over) (c : In_ok-execute g) (runs : List Run) → StandsFor (state g.S.Store c.args.conn.now) runs → (HasCleanDisk (state g.S.Store c.args.conn.now) → length runs < greatest_run_number) → HasCleanDisk (state g.S.Store c.execute.new.conn)
    → IsSettledWithRuns (state g.S.Store c.execute.new.conn) (runs ++ new_run runs c.args.total c.args.moment ∷ []) × ((state g.S.Store c.execute.new.conn).last_rowid ≡ pos (suc (length runs))) × IsTrue (state g.S.Store c.execute.new.conn).is_open × IsDatabase (state g.S.Store c.execute.new.conn).now
begun g c runs has room clean =
    executed_begin g.S.Store c.args.conn.now c.execute.new.conn runs c.args.total c.args.moment has room (omega (arith, c.ranges.total.fits)) (λ k. omega (arith, k, c.execute.ensures.survives.clean)) clean
    (rw (c.int_value.ensures, c.int_value-2.ensures, c.from.ensures) at (c.in_ok-execute.ensures.executed clean))

pub returns-in_err-execute-clause-crash : goal.returns-in_err-execute-clause-crash
returns-in_err-execute-clause-crash g c = crash g (goal.at.returns-in_err-execute-clause-crash g c).After-execute

pub returns-clause-number : goal.returns-clause-number
returns-clause-number g c runs has room clean =
    let done = begun g (goal.at.returns-clause-number g c).In_ok-execute runs has room clean in
    c.unsigned_abs.ensures.value ∙ ap unsigned_abs (to_z-of_z w64 c.last_insert_rowid.result (let fits : SFits w64 c.last_insert_rowid.result = search rules in fits) ∙ c.last_insert_rowid.ensures ∙ done.1)

pub returns-clause-added : goal.returns-clause-added
returns-clause-added g c = record {
  stands = λ runs has room clean opened. (begun g (goal.at.returns-clause-added g c).In_ok-execute runs has room clean).0;
  lasts = λ runs has room clean.
      let done = begun g (goal.at.returns-clause-added g c).In_ok-execute runs has room clean in
      leaves_commit g.S.Store c.execute.new.conn (runs ++ new_run runs c.args.total c.args.moment ∷ []) (λ db opened may. g.met.S.Store.settled c.execute.new.conn.store db opened may) done.2 done.0 done.3 clean;
}

pub returns-clause-crash : goal.returns-clause-crash
returns-clause-crash g c = crash g (goal.at.returns-clause-crash g c).After-execute
