use Rattle.kt_store.proofs.Common.{Commits, HasCleanDisk, Held, MayCommit, OnErr, ExecutesInOrder, Survives, RollsBack, arith, begun, refl, rules, state, subst, ◌≡◌}
use Rattle.kt_store.proofs.CommitLemmas.{failed_undoes, commit_survives}
use Rattle.kt_store.proofs.FaultLemmas.{on_err}
use Rattle.kt_store.proofs.FillLemmas.{in_turn}
use Rattle.kt_store.proofs.batch.commit.Given.{Over}
use Rattle.kt_store.proofs.batch.commit.Goals.{In_ok-execute_statements}
use Rattle.kt_store.proofs.batch.commit.Goals as goal

-- the statements were executed in order in a new transaction
ran : (g : Over) (c : In_ok-execute_statements g) → HasCleanDisk (state g.S.Store c.execute_statements.new.tx.conn.now) → ExecutesInOrder g.S.Store (g.B.Batch.statements c.args.batch.now) (begun c.args.conn.now) c.execute_statements.new.tx.conn.now
ran g c early = let starts = c.transaction-tx.ensures.begun in rw starts at (c.in_ok-execute_statements.ensures.runs early (rw starts refl))

-- a crash leaves what it left before, or the tables after all statements
crash : (g : Over) (c : In_ok-execute_statements g) (end : Held g.row.S.Denot) → Survives (state g.S.Store c.execute_statements.new.tx.conn.now) (state g.S.Store end) (λ db. db ≡ (state g.S.Store c.execute_statements.new.tx.conn.now).now.trees)
    → Survives (state g.S.Store c.args.conn.now) (state g.S.Store end) (MayCommit g.S.Store (g.B.Batch.statements c.args.batch.now) c.args.conn.now)
crash g c end survives = commit_survives g.S.Store c.args.conn.now c.execute_statements.new.tx.conn.now end (g.B.Batch.statements c.args.batch.now) (ran g c) (rw c.transaction-tx.ensures.begun at c.execute_statements.ensures.uncommitted.survives) survives

pub returns-clause-done : goal.returns-clause-done
returns-clause-done g c =
    let same : c.commit.new.self.0 ≡ c.conn-2-1.given.0 = search rules in
    subst (λ h. HasCleanDisk (state g.S.Store h) → Commits g.S.Store (g.B.Batch.statements c.args.batch.now) c.args.conn.now h) same (λ clean.
    (c.execute_statements.new.tx.conn.now, ran g (goal.at.returns-clause-done g c).In_ok-execute_statements (omega (arith, clean, c.commit.ensures.survives.clean)), (c.in_ok-commit.ensures.ok clean).1))

pub returns-clause-crash : goal.returns-clause-crash
returns-clause-crash g c =
    let same : c.commit.new.self.0 ≡ c.conn-2-1.given.0 = search rules in
    subst (λ h. Survives (state g.S.Store c.args.conn.now) (state g.S.Store h) (MayCommit g.S.Store (g.B.Batch.statements c.args.batch.now) c.args.conn.now)) same
    (crash g (goal.at.returns-clause-crash g c).In_ok-execute_statements c.commit.new.self.0 c.commit.ensures.survives)

pub returns-in_err-commit-clause-undone : goal.returns-in_err-commit-clause-undone
returns-in_err-commit-clause-undone g c =
    let same : c.commit.new.self.0 ≡ c.conn-2-1.given.0 = search rules in
    subst (λ h. HasCleanDisk (state g.S.Store h) → OnErr c.from_residual-in_err-commit.result (RollsBack g.S.Store c.args.conn.now h)) same (λ clean.
    let early : HasCleanDisk (state g.S.Store c.execute_statements.new.tx.conn.now) = omega (arith, clean, c.commit.ensures.survives.clean) in
    let turn = in_turn g.S.Store (g.B.Batch.statements c.args.batch.now) (begun c.args.conn.now) c.execute_statements.new.tx.conn.now (ran g (goal.at.returns-in_err-commit-clause-undone g c).In_ok-execute_statements early) in
    on_err _ c.from_residual-in_err-commit.result (failed_undoes g.S.Store c.args.conn.now c.execute_statements.new.tx.conn.now c.commit.new.self.0 c.in_err-commit.field-0.0 (turn refl) (rw c.transaction-tx.ensures.begun at (c.execute_statements.ensures.uncommitted.keeps early)) (c.in_err-commit.ensures.err clean)))

pub returns-in_err-commit-clause-crash : goal.returns-in_err-commit-clause-crash
returns-in_err-commit-clause-crash g c =
    let same : c.commit.new.self.0 ≡ c.conn-2-1.given.0 = search rules in
    subst (λ h. Survives (state g.S.Store c.args.conn.now) (state g.S.Store h) (MayCommit g.S.Store (g.B.Batch.statements c.args.batch.now) c.args.conn.now)) same
    (crash g (goal.at.returns-in_err-commit-clause-crash g c).In_ok-execute_statements c.commit.new.self.0 c.commit.ensures.survives)
