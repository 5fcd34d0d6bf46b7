use Rattle.std.proofs.Common.{Some, refl, sym, ◌∙◌}
use Rattle.kt_script.proofs.Common.{IsUnexpectedToken, ScriptState, Token, next}
use Rattle.kt_script.proofs.Going.{some_fault}
use Rattle.kt_script.proofs.Feeding.{fed, unfit}
use Rattle.kt_script.proofs.parser.Parser.feed.Goals as goal

pub returns-in-None-clause-fault : goal.returns-in-None-clause-fault
returns-in-None-clause-fault c =
    let token : Token = record { line = c.args.line; kind = c.in-Some.kind } in
    rw (c.in-Some.is) (some_fault ScriptState c.fault-fault.result (λ fault. IsUnexpectedToken c.args.place c.args.line (Some c.in-Some.kind) fault)
    (c.fault-fault.ensures, unfit (next c.args.place token) (sym c.in-None.is ∙ c.in_ok-next.ensures.place)))

pub returns-in-Some-2-clause-ok : goal.returns-in-Some-2-clause-ok
returns-in-Some-2-clause-ok c =
    let token : Token = record { line = c.args.line; kind = c.in-Some.kind } in
    rw (c.in-Some.is)
    (fed c.args.self.now _ c.args.place c.in-Some-2.place token (next c.args.place token) refl (sym c.in-Some-2.is ∙ c.in_ok-next.ensures.place) c.in_ok-next.ensures.ended c.in_ok-update_brackets.ensures)
