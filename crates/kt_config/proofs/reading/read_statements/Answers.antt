use Rattle.std.proofs.Common.{rules, arith, ◌≡◌, ◌+◌, ◌∷◌, drop}
use Rattle.std.proofs.lemmas.Grind.{common_steps}
use Rattle.kt_config.proofs.Common.{AddsDefinition, definition_in}
use Rattle.kt_config.proofs.Answering.{next_read}
use Rattle.kt_config.proofs.reading.read_statements.Goals as goal

pub loop-stmt-preserved : goal.loop-stmt-preserved
loop-stmt-preserved c =
    let parts : drop c.loop-stmt.stmt-index c.args.stmts.now ≡ c.stmt-item.result ∷ drop (c.loop-stmt.stmt-index + 1) c.args.stmts.now = grind (arith, common_steps) in
    let becomes : AddsDefinition c.loop-stmt.config c.apply_statement.new.config (definition_in c.stmt-item.result.action) = search rules in
    next_read c.loop-stmt.config c.apply_statement.new.config c.args.stmts.now _ _ c.stmt-item.result c.loop-stmt.invariant parts becomes
