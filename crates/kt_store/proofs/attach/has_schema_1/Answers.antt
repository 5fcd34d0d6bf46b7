use Rattle.kt_store.proofs.Common.{arith, inl, state, unchanged_then}
use Rattle.kt_store.proofs.AskLemmas.{asks_then}
use Rattle.kt_store.proofs.StepLemmas.{rests_then}
use Rattle.kt_store.proofs.attach.has_schema_1.Goals as goal

pub returns-in_err-check_tables-clause-asks : goal.returns-in_err-check_tables-clause-asks
returns-in_err-check_tables-clause-asks g c = asks_then g.S.Store c.args.conn.now c.read_schema_number.new.conn c.check_tables.new.conn c.read_schema_number.ensures.asks c.check_tables.ensures.survives
    (λ n says clean. rests_then (state g.S.Store c.args.conn.now) (state g.S.Store c.read_schema_number.new.conn) (state g.S.Store c.check_tables.new.conn) (c.in_ok-number.ensures.same n says (omega (arith, clean, c.check_tables.ensures.survives.clean))) (c.in_err-check_tables.ensures.rests clean))

pub returns-clause-asks : goal.returns-clause-asks
returns-clause-asks g c = asks_then g.S.Store c.args.conn.now c.read_schema_number.new.conn c.check_tables.new.conn c.read_schema_number.ensures.asks c.check_tables.ensures.survives
    (λ n says clean. inl (unchanged_then (state g.S.Store c.args.conn.now) (state g.S.Store c.read_schema_number.new.conn) (state g.S.Store c.check_tables.new.conn) (c.in_ok-number.ensures.same n says (omega (arith, clean, c.check_tables.ensures.survives.clean))) (c.in_ok-check_tables.ensures.same clean)))
