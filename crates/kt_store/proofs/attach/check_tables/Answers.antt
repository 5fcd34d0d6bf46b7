use Rattle.kt_store.proofs.Common.{arith, select_entries_sql, false, select_props_sql, state, sym, true, unchanged_then, ◌∙◌, ◌≡◌}
use Rattle.kt_store.proofs.AskLemmas.{understood_before}
use Rattle.kt_store.proofs.SqlFacts.{runs_select_is, entries_select_is, pairs_select_is}
use Rattle.kt_store.proofs.attach.check_tables.Goals as goal

pub check_sql-requires : goal.check_sql-requires
check_sql-requires g c = runs_select_is.2

pub check_sql-requires-2 : goal.check_sql-requires-2
check_sql-requires-2 g c = entries_select_is.2

pub check_sql-requires-3 : goal.check_sql-requires-3
check_sql-requires-3 g c = pairs_select_is.2

pub returns-then-old-clause-understood : goal.returns-then-old-clause-understood
returns-then-old-clause-understood g c clean =
    let first = c.in_ok-check_sql.ensures.understood (omega (arith, clean, c.check_sql-2.ensures.survives.clean)) in
    let second = understood_before (state g.S.Store c.args.conn.now) (state g.S.Store c.check_sql.new.conn) select_entries_sql (c.in_ok-check_sql.ensures.same (omega (arith, clean, c.check_sql-2.ensures.survives.clean))) (c.in_ok-check_sql-2.ensures.understood clean) in
    (first, second, λ no. absurd (let e : true ≡ false = sym c.if-old.true ∙ no in cc))

pub returns-clause-understood : goal.returns-clause-understood
returns-clause-understood g c clean =
    let first = c.in_ok-check_sql.ensures.understood (omega (arith, clean, c.check_sql-2.ensures.survives.clean, c.check_sql-3.ensures.survives.clean)) in
    let second = understood_before (state g.S.Store c.args.conn.now) (state g.S.Store c.check_sql.new.conn) select_entries_sql (c.in_ok-check_sql.ensures.same (omega (arith, clean, c.check_sql-2.ensures.survives.clean, c.check_sql-3.ensures.survives.clean))) (c.in_ok-check_sql-2.ensures.understood (omega (arith, clean, c.check_sql-3.ensures.survives.clean))) in
    (first, second, λ no. understood_before (state g.S.Store c.args.conn.now) (state g.S.Store c.check_sql-2.new.conn) select_props_sql (unchanged_then (state g.S.Store c.args.conn.now) (state g.S.Store c.check_sql.new.conn) (state g.S.Store c.check_sql-2.new.conn) (c.in_ok-check_sql.ensures.same (omega (arith, clean, c.check_sql-2.ensures.survives.clean, c.check_sql-3.ensures.survives.clean))) (c.in_ok-check_sql-2.ensures.same (omega (arith, clean, c.check_sql-3.ensures.survives.clean)))) (c.in_ok-check_sql-3.ensures.understood clean))
