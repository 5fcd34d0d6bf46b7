use Rattle.kt_store.proofs.Common.{HasCleanDisk, Int, SFits, StoresSchemaNumber, [], ap, arith, length, select_schema_sql, option_copied, rules, slice_get, state, sym, to_z-of_z, w64, ℤ, ◌∙◌, ◌∷◌, ◌≡◌}
use Rattle.kt_store.proofs.AskLemmas.{asked_unchanged}
use Rattle.kt_store.proofs.MetaLemmas.{asked_meta, says_plain, read_it, row_is, some_row, asks_number, tells_number}
use Rattle.kt_store.proofs.SqlFacts.{number_is}
use Rattle.kt_store.proofs.attach.read_schema_number.Given.{Over}
use Rattle.kt_store.proofs.attach.read_schema_number.Goals.{In-Some, In_ok-rows}
use Rattle.kt_store.proofs.attach.read_schema_number.Goals as goal

pub execute_query-requires : goal.execute_query-requires
execute_query-requires g c = number_is

-- the query returned one row with the schema number
are : (g : Over) (c : In_ok-rows g) (n : ℤ) → StoresSchemaNumber n (state g.S.Store c.args.conn.now) → HasCleanDisk (state g.S.Store c.execute_query.new.conn) → c.in_ok-rows.rows.items ≡ (Int n ∷ []) ∷ []
are g c n says clean = asked_meta g.S.Store c.args.conn.now c.execute_query.new.conn (λ k. omega (arith, k, c.execute_query.ensures.survives.clean)) n c.in_ok-rows.rows.items says clean (c.in_ok-rows.ensures.rows clean)

-- the first row has the schema number
first_is : (g : Over) (c : In-Some g) (n : ℤ) → c.in_ok-rows.rows.items ≡ (Int n ∷ []) ∷ [] → c.in-Some.row.now ≡ Int n ∷ []
first_is g c n are = row_is n c.in_ok-rows.rows.items c.in-Some.row.now are (ap (λ l. slice_get l 0) (sym c.deref.ensures.value) ∙ sym c.first.ensures.value ∙ ap option_copied c.in-Some.is)

pub returns-clause-number : goal.returns-clause-number
returns-clause-number g c n says clean =
    let at = goal.at.returns-clause-number g c in
    to_z-of_z w64 c.in_ok-number.number (let fits : SFits w64 c.in_ok-number.number = search rules in fits) ∙ read_it n c.in_ok-number.number c.in-Some.row.now (first_is g at.In-Some n (are g at.In_ok-rows n says clean)) c.in_ok-number.ensures.value

pub returns-in_default-clause-taken : goal.returns-in_default-clause-taken
returns-in_default-clause-taken g c n says clean =
    absurd (some_row n c.in_ok-rows.rows.items (are g (goal.at.returns-in_default-clause-taken g c).In_ok-rows n says clean) (ap (λ l. slice_get l 0) (sym c.deref.ensures.value) ∙ sym c.first.ensures.value ∙ ap option_copied c.in_default.is))

pub returns-clause-same : goal.returns-clause-same
returns-clause-same g c n says clean =
    asked_unchanged g.S.Store c.args.conn.now c.execute_query.new.conn (λ k. omega (arith, k, c.execute_query.ensures.survives.clean)) select_schema_sql (says_plain n _ says) [] c.in_ok-rows.rows.items clean (c.in_ok-rows.ensures.rows clean)

pub returns-in_err-rows-clause-asks : goal.returns-in_err-rows-clause-asks
returns-in_err-rows-clause-asks g c = asks_number g.S.Store c.args.conn.now c.execute_query.new.conn c.execute_query.ensures.survives (λ n says clean. c.in_err-rows.ensures.rests clean)

pub returns-in_default-clause-asks : goal.returns-in_default-clause-asks
returns-in_default-clause-asks g c = tells_number g.S.Store c.args.conn.now c.execute_query.new.conn c.execute_query.ensures.survives c.in_ok-rows.rows.items (λ clean. c.in_ok-rows.ensures.rows clean)

pub returns-in_err-number-clause-asks : goal.returns-in_err-number-clause-asks
returns-in_err-number-clause-asks g c = tells_number g.S.Store c.args.conn.now c.execute_query.new.conn c.execute_query.ensures.survives c.in_ok-rows.rows.items (λ clean. c.in_ok-rows.ensures.rows clean)

pub returns-then-column_count-eq0-clause-taken : goal.returns-then-column_count-eq0-clause-taken
returns-then-column_count-eq0-clause-taken g c n says clean =
    let at = goal.at.returns-then-column_count-eq0-clause-taken g c in
    let row = first_is g at.In-Some n (are g at.In_ok-rows n says clean) in
    absurd (let one : 1 ≡ 0 = ap length (sym row) ∙ sym c.column_count.ensures ∙ c.if-column_count-eq0.true in cc)

pub returns-then-column_count-eq0-clause-asks : goal.returns-then-column_count-eq0-clause-asks
returns-then-column_count-eq0-clause-asks g c = tells_number g.S.Store c.args.conn.now c.execute_query.new.conn c.execute_query.ensures.survives c.in_ok-rows.rows.items (λ clean. c.in_ok-rows.ensures.rows clean)

pub returns-clause-asks : goal.returns-clause-asks
returns-clause-asks g c = tells_number g.S.Store c.args.conn.now c.execute_query.new.conn c.execute_query.ensures.survives c.in_ok-rows.rows.items (λ clean. c.in_ok-rows.ensures.rows clean)
