use Rattle.kt_store.proofs.Common.{IsSchema1Database, arith, inl, inr, migration_statements, refl, state}
use Rattle.kt_store.proofs.CommitLemmas.{undone_holds, commit_crash, commit_takes}
use Rattle.kt_store.proofs.RaiseLemmas.{raised_in}
use Rattle.kt_store.proofs.FaultLemmas.{if_trouble}
use Rattle.kt_store.proofs.SqlFacts.{raise_is}
use Rattle.kt_store.proofs.StepLemmas.{either_left, leaves_held}
use Rattle.kt_store.proofs.attach.migrate.Goals as goal

pub commit-requires : goal.commit-requires
commit-requires g c = (inr (inr (inr (inl refl))), (inr (inr (inr (inr raise_is.1))), tt))

pub returns-in_err-commit-clause-refused : goal.returns-in_err-commit-clause-refused
returns-in_err-commit-clause-refused g c runs has =
    let crash = commit_crash g.S.Store migration_statements c.args.conn.now c.commit.new.conn runs c.commit.ensures.crash (λ clean left ran. raised_in g.S.Store c.args.conn.now left runs (λ opened. (has clean opened).tables) ran) in
    if_trouble _ c.from_residual.result c.from_residual.ensures.1 (λ e failed. (
      undone_holds g.S.Store (λ db. IsSchema1Database db runs) c.args.conn.now c.commit.new.conn has (λ clean. omega (arith, clean, c.commit.ensures.crash.clean)) (λ clean. c.in_err-commit.ensures.undone clean),
      crash,
      λ clean. failed,
      λ opened. either_left (state g.S.Store c.args.conn.now) (state g.S.Store c.commit.new.conn) runs crash
          (leaves_held g.S.Store c.args.conn.now (λ db opened may. g.met.S.Store.settled c.args.conn.now.store db opened may) (λ db. IsSchema1Database db runs) c.theorem_of_valid_contents.ensures has opened),
    ))

pub returns-clause-taken : goal.returns-clause-taken
returns-clause-taken g c runs has = commit_takes g.S.Store migration_statements c.args.conn.now c.commit.new.conn runs c.commit.ensures.crash (λ clean left ran. raised_in g.S.Store c.args.conn.now left runs (λ opened. (has clean opened).tables) ran)
    (λ db opened may. g.met.S.Store.settled c.commit.new.conn.store db opened may) (λ clean. c.in_ok-commit.ensures.done clean)
