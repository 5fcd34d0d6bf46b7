use Rattle.std.proofs.Common.{List, drop, rules, ◌≡◌, ◌<◌, ◌-◌, length, ◌∷◌, refl, ap, ◌∙◌}
use Rattle.kt_suite.proofs.Common.{take_rest, Stmt}
use Rattle.kt_suite.proofs.Inclusions.{step_inner, step_next, step_stops}
use Rattle.kt_suite.proofs.OpenedFiles.{unopened_file, opened_short}
use Rattle.kt_suite.proofs.Reading.{deeper, reading_all, reading_first, reading_next, reading_stops}
use Rattle.kt_suite.proofs.loader.+load_file.Goals as goal

pub returns-in-Err : goal.returns-in-Err
returns-in-Err g n c = unopened_file g.T.Tree.asks _ _ c.args.registry _ _ c.in-Err.ensures

pub returns-in-Err-push_open_file : goal.returns-in-Err-push_open_file
returns-in-Err-push_open_file g n c = opened_short g.T.Tree.asks _ _ c.args.registry _ _ _ c.in-Ok.ensures (c.in-Err-push_open_file.refusal, c.fault_of_allocation.ensures)

pub loop-stmt-init : goal.loop-stmt-init
loop-stmt-init g n c = reading_first g.T.Tree.asks _ _ c.args.registry _ _ _ _ _ c.in-Ok.ensures c.in-Ok-push_open_file.ensures (take_rest c.as_slice.result.now 1 ∙ ap (λ (xs : List Stmt). drop 1 xs) c.as_slice.ensures) refl

pub returns-in-Err-execute_statement : goal.returns-in-Err-execute_statement
returns-in-Err-execute_statement g n c =
    let e : c.loop-stmt.rest.now ≡ c.in-Some.stmt.now ∷ c.in-Some.after.now = search rules in
    reading_stops g.T.Tree.asks _ _ _ c.args.registry _ _ _ _ _ _ e c.loop-stmt.invariant _ (step_stops c.in-Err-execute_statement.ensures.step)

pub returns-in-Err-load_file : goal.returns-in-Err-load_file
returns-in-Err-load_file g n c =
    let e : c.loop-stmt.rest.now ≡ c.in-Some.stmt.now ∷ c.in-Some.after.now = search rules in
    reading_stops g.T.Tree.asks _ _ _ c.args.registry _ _ _ _ _ _ e c.loop-stmt.invariant _ (step_inner c.in-Enter.is c.in-Ok-execute_statement.ensures.step c.in-Err-load_file.ensures)

pub loop-stmt-preserved-in-Next : goal.loop-stmt-preserved-in-Next
loop-stmt-preserved-in-Next g n c =
    let e : c.loop-stmt.rest.now ≡ c.in-Some.stmt.now ∷ c.in-Some.after.now = search rules in
    reading_next g.T.Tree.asks _ _ _ c.args.registry _ _ _ _ _ _ e c.loop-stmt.invariant _ _ c.in-Ok-execute_statement.ensures.suite (step_next c.in-Next.is c.in-Ok-execute_statement.ensures.step)

pub loop-stmt-preserved : goal.loop-stmt-preserved
loop-stmt-preserved g n c =
    let e : c.loop-stmt.rest.now ≡ c.in-Some.stmt.now ∷ c.in-Some.after.now = search rules in
    reading_next g.T.Tree.asks _ _ _ c.args.registry _ _ _ _ _ _ e c.loop-stmt.invariant _ _ c.in-Ok-execute_statement.ensures.suite
    (step_inner c.in-Enter.is c.in-Ok-execute_statement.ensures.step c.in-Ok-load_file.ensures)

pub returns : goal.returns
returns g n c = reading_all g.T.Tree.asks _ _ c.args.registry _ _ _ _ _ c.in_default.ensures.cases c.loop-stmt.invariant c.close_last_file.ensures

pub load_file-requires : goal.load_file-requires
load_file-requires g n c =
    let d : 32 - length c.in-Enter.next.open_kyuafiles < 32 - length c.args.registry.open_kyuafiles = deeper g.T.Tree.asks _ _ _ c.args.registry _ _ _ _ _ _ _ _ _ c.in-Enter.is c.loop-stmt.invariant c.in-Ok-execute_statement.ensures.step in
    search rules
