use Rattle.kt_store.proofs.Common.{state}
use Rattle.kt_store.proofs.AttachLemmas.{number_of, says_of, known_due, look_refuses, look_takes, renew_refuses, renew_takes}
use Rattle.kt_store.proofs.FaultLemmas.{if_same}
use Rattle.kt_store.proofs.attach.adopt_tables.Goals as goal

pub returns-in_err-has_schema_1-clause-refused : goal.returns-in_err-has_schema_1-clause-refused
returns-in_err-has_schema_1-clause-refused g c was has is =
    let says = says_of was (state g.S.Store c.args.conn.now) has is in
    if_same _ c.from_residual.result c.in_err-has_schema_1.field-0.0 c.from_residual.ensures.1
    (look_refuses g.S.Store c.args.conn.now c.has_schema_1.new.conn (λ db opened may. g.met.S.Store.settled c.args.conn.now.store db opened may) c.theorem_of_valid_contents.ensures (c.has_schema_1.ensures.asks.crash (number_of was) says)
    c.in_err-has_schema_1.field-0.0 (c.has_schema_1.ensures.asks.rests (number_of was) says) was (λ clean. known_due was c.in_err-has_schema_1.field-0.0 has (λ which. c.in_err-has_schema_1.ensures.taken (number_of was) says which clean)) is)

pub returns-in_err-migrate-clause-refused : goal.returns-in_err-migrate-clause-refused
returns-in_err-migrate-clause-refused g c was has is =
    let says = says_of was (state g.S.Store c.args.conn.now) has is in
    if_same _ c.from_residual-in_err-migrate.result c.in_err-migrate.field-0.0 c.from_residual-in_err-migrate.ensures.1
    (renew_refuses (state g.S.Store c.args.conn.now) (state g.S.Store c.has_schema_1.new.conn) (state g.S.Store c.migrate.new.conn) (c.has_schema_1.ensures.asks.crash (number_of was) says) (λ clean. c.in_ok-has_schema_1.ensures.same (number_of was) says clean)
    (λ clean. c.migrate.ensures.earlier clean) c.in_err-migrate.field-0.0 (λ runs held. c.in_err-migrate.ensures.refused runs held) was has (λ clean. (c.in_ok-has_schema_1.ensures.number (number_of was) says clean).0 c.if-branch.true) is)

pub returns-in_ok-migrate-clause-taken : goal.returns-in_ok-migrate-clause-taken
returns-in_ok-migrate-clause-taken g c was has is =
    let says = says_of was (state g.S.Store c.args.conn.now) has is in
    renew_takes (state g.S.Store c.args.conn.now) (state g.S.Store c.has_schema_1.new.conn) (state g.S.Store c.migrate.new.conn) (c.has_schema_1.ensures.asks.crash (number_of was) says) (λ clean. c.in_ok-has_schema_1.ensures.same (number_of was) says clean)
    (λ clean. c.migrate.ensures.earlier clean) (λ runs held. c.in_ok-migrate.ensures.taken runs held) was has (λ clean. (c.in_ok-has_schema_1.ensures.number (number_of was) says clean).0 c.if-branch.true)
    (λ clean. c.in_ok-has_schema_1.ensures.tables (number_of was) says clean) is

pub returns-else-branch-clause-taken : goal.returns-else-branch-clause-taken
returns-else-branch-clause-taken g c was has is =
    let says = says_of was (state g.S.Store c.args.conn.now) has is in
    look_takes g.S.Store c.args.conn.now c.has_schema_1.new.conn (λ db opened may. g.met.S.Store.settled c.args.conn.now.store db opened may) c.theorem_of_valid_contents.ensures (c.has_schema_1.ensures.asks.crash (number_of was) says)
    (λ clean. c.in_ok-has_schema_1.ensures.same (number_of was) says clean) was has (λ clean. (c.in_ok-has_schema_1.ensures.number (number_of was) says clean).1 c.if-branch.false) (λ clean. c.in_ok-has_schema_1.ensures.tables (number_of was) says clean) is
