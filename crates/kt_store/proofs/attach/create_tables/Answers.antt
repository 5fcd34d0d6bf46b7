use Rattle.kt_store.proofs.Common.{[], arith, inl, inr, creation_statements, no_schema, refl, ◌≡◌}
use Rattle.kt_store.proofs.CommitLemmas.{undone_holds, commit_crash, commit_takes}
use Rattle.kt_store.proofs.CreateLemmas.{made_in}
use Rattle.kt_store.proofs.FaultLemmas.{if_trouble}
use Rattle.kt_store.proofs.SqlFacts.{mark_is}
use Rattle.kt_store.proofs.attach.create_tables.Goals as goal

pub commit-requires : goal.commit-requires
commit-requires g c = (inl refl, (inr (inl refl), (inr (inr (inl refl)), (inr (inr (inr (inl refl))), (inr (inr (inr (inr mark_is.1))), tt)))))

pub returns-in_err-commit-clause-refused : goal.returns-in_err-commit-clause-refused
returns-in_err-commit-clause-refused g c empty =
    if_trouble _ c.from_residual.result c.from_residual.ensures.1 (λ e failed. (
      undone_holds g.S.Store (λ db. db.schema ≡ no_schema) c.args.conn.now c.commit.new.conn empty (λ clean. omega (arith, clean, c.commit.ensures.crash.clean)) (λ clean. c.in_err-commit.ensures.undone clean),
      commit_crash g.S.Store creation_statements c.args.conn.now c.commit.new.conn [] c.commit.ensures.crash (λ clean left ran. made_in g.S.Store c.args.conn.now left (λ opened. (empty clean opened).tables) ran),
      λ clean. failed,
    ))

pub returns-clause-taken : goal.returns-clause-taken
returns-clause-taken g c empty = commit_takes g.S.Store creation_statements c.args.conn.now c.commit.new.conn [] c.commit.ensures.crash (λ clean left ran. made_in g.S.Store c.args.conn.now left (λ opened. (empty clean opened).tables) ran)
    (λ db opened may. g.met.S.Store.settled c.commit.new.conn.store db opened may) (λ clean. c.in_ok-commit.ensures.done clean)
