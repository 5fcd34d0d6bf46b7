use Rattle.std.proofs.Common.{Result, Ok, Err, rules, ◌≡◌, ◌+◌, ◌∷◌, drop, sym, ap, ◌∙◌}
use Rattle.kt_suite.proofs.Common.{drop_more, Pair, SuiteCause, ProgramTable, table_with, definition}
use Rattle.kt_suite.proofs.TableLoops.{table_next, table_stops}
use Rattle.kt_suite.proofs.table.build_table.Goals as goal

pub returns-in-Err : goal.returns-in-Err
returns-in-Err c =
    let xs = c.args.pairs.now in
    let i = c.loop-pair.pair-index in
    let e : drop i xs ≡ c.pair-item.result ∷ drop (i + 1) xs = drop_more xs i _ c.loop-pair-test.true ∙ ap (λ (x : Pair). x ∷ drop (i + 1) xs) (sym c.pair-item.is) in
    let h : ◌≡◌ {A = Result ProgramTable SuiteCause} (Err c.in-Err.cause) (table_with c.loop-pair.invariant.before (definition c.pair-item.result)) = search rules in
    table_stops _ _ _ _ _ _ e c.loop-pair.invariant h

pub loop-pair-preserved : goal.loop-pair-preserved
loop-pair-preserved c =
    let xs = c.args.pairs.now in
    let i = c.loop-pair.pair-index in
    let e : drop i xs ≡ c.pair-item.result ∷ drop (i + 1) xs = drop_more xs i _ c.loop-pair-test.true ∙ ap (λ (x : Pair). x ∷ drop (i + 1) xs) (sym c.pair-item.is) in
    let h : ◌≡◌ {A = Result ProgramTable SuiteCause} (Ok c.in-Ok.next) (table_with c.loop-pair.invariant.before (definition c.pair-item.result)) = search rules in
    table_next _ _ _ _ _ _ e c.loop-pair.invariant h
