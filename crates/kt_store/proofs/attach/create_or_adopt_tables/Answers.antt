use Rattle.kt_store.proofs.Common.{IfErr-weaker, on_ok_weaker, state}
use Rattle.kt_store.proofs.AttachLemmas.{all_due, look_refuses, create_refuses, create_takes, take_refuses, take_takes}
use Rattle.kt_store.proofs.FaultLemmas.{if_trouble, ok_later, fault_later, ok_of, fault_of}
use Rattle.kt_store.proofs.SqlFacts.{nothing_is}
use Rattle.kt_store.proofs.attach.create_or_adopt_tables.Goals as goal

pub check_sql-requires : goal.check_sql-requires
check_sql-requires g c = nothing_is

pub returns-in_err-check_sql-clause-refused : goal.returns-in_err-check_sql-clause-refused
returns-in_err-check_sql-clause-refused g c was is =
    if_trouble _ c.from_residual.result c.from_residual.ensures.1 (λ e failed.
    look_refuses g.S.Store c.args.conn.now c.check_sql.new.conn (λ db opened may. g.met.S.Store.settled c.args.conn.now.store db opened may) c.theorem_of_valid_contents.ensures c.check_sql.ensures.survives e (λ clean. c.in_err-check_sql.ensures.rests clean) was (λ clean. all_due was e failed) is)

pub returns-then-is_blank-clause-refused : goal.returns-then-is_blank-clause-refused
returns-then-is_blank-clause-refused g c was is =
    IfErr-weaker c.create_tables.result _ _ (λ e why. create_refuses (state g.S.Store c.args.conn.now) (state g.S.Store c.check_sql.new.conn) (state g.S.Store c.create_tables.new.conn) c.check_sql.ensures.survives (λ clean. c.in_ok-check_sql.ensures.same clean) (λ clean. c.create_tables.ensures.earlier clean)
    (c.is_blank.ensures.blank c.if-is_blank.true) e why was is) (fault_later _ c.create_tables.result c.create_tables.ensures.refused)

pub returns-then-is_blank-clause-taken : goal.returns-then-is_blank-clause-taken
returns-then-is_blank-clause-taken g c was is =
    on_ok_weaker c.create_tables.result (λ why. create_takes (state g.S.Store c.args.conn.now) (state g.S.Store c.check_sql.new.conn) (state g.S.Store c.create_tables.new.conn) c.check_sql.ensures.survives (λ clean. c.in_ok-check_sql.ensures.same clean) (λ clean. c.create_tables.ensures.earlier clean)
    (c.is_blank.ensures.blank c.if-is_blank.true) why was is) (ok_later _ c.create_tables.result c.create_tables.ensures.taken)

pub returns-clause-refused : goal.returns-clause-refused
returns-clause-refused g c was is =
    IfErr-weaker c.adopt_tables.result _ _ (λ e why. take_refuses (state g.S.Store c.args.conn.now) (state g.S.Store c.check_sql.new.conn) (state g.S.Store c.adopt_tables.new.conn) c.check_sql.ensures.survives (λ clean. c.in_ok-check_sql.ensures.same clean) (λ clean. c.adopt_tables.ensures.earlier clean)
    (c.is_blank.ensures.filled c.if-is_blank.false) e why was is) (fault_of _ _ _ c.adopt_tables.result c.adopt_tables.ensures.refused)

pub returns-clause-taken : goal.returns-clause-taken
returns-clause-taken g c was is =
    on_ok_weaker c.adopt_tables.result (λ why. take_takes (state g.S.Store c.args.conn.now) (state g.S.Store c.check_sql.new.conn) (state g.S.Store c.adopt_tables.new.conn) c.check_sql.ensures.survives (λ clean. c.in_ok-check_sql.ensures.same clean) (λ clean. c.adopt_tables.ensures.earlier clean)
    (c.is_blank.ensures.filled c.if-is_blank.false) why was is) (ok_of _ _ _ c.adopt_tables.result c.adopt_tables.ensures.taken)
