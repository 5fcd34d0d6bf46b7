use Rattle.std.proofs.Common.{◌∙◌, ap, ◌++◌, [], sym, option_and_then}
use Rattle.kt_metadata.proofs.Common.{chars, last_values, value_of, program_layer, value_of_text}
use Rattle.std.specs.Rc.{rc_value}
use Rattle.kt_metadata.proofs.Layers.{given-over, given-program_layer}
use Rattle.kt_metadata.proofs.props.Props.find_definition.Goals as goal

pub returns-in-Some-clause-text : goal.returns-in-Some-clause-text
returns-in-Some-clause-text c =
    c.in-Some.ensures.text ∙ given-over (chars c.args.name.now) (program_layer c.self.inside.program) c.self.inside.own c.args.self.now c.in-Some.given.now.text c.self.view_is c.in-Some.ensures.text

pub returns-in-Some-clause-value : goal.returns-in-Some-clause-value
returns-in-Some-clause-value c =
    c.in-Some.ensures.value
    ∙ ap (option_and_then (value_of_text (chars c.args.name.now)))
    (given-over (chars c.args.name.now) (program_layer c.self.inside.program) c.self.inside.own c.args.self.now c.in-Some.given.now.text c.self.view_is c.in-Some.ensures.text)

pub returns-in-Some-program-clause-text : goal.returns-in-Some-program-clause-text
returns-in-Some-program-clause-text c =
    c.get-in-Some-program.ensures.text ∙ ap (value_of (chars c.args.name.now)) (c.layer.ensures ∙ c.deref.ensures)
    ∙ given-program_layer (chars c.args.name.now) (rc_value c.in-Some-program.program) c.self.inside.own c.args.self.now (ap (λ p. last_values (program_layer p ++ c.self.inside.own)) (sym c.in-Some-program.is) ∙ c.self.view_is) c.in-None.ensures.text

pub returns-in-Some-program-clause-value : goal.returns-in-Some-program-clause-value
returns-in-Some-program-clause-value c =
    c.get-in-Some-program.ensures.value
    ∙ ap (option_and_then (value_of_text (chars c.args.name.now)))
    (ap (value_of (chars c.args.name.now)) (c.layer.ensures ∙ c.deref.ensures)
    ∙ given-program_layer (chars c.args.name.now) (rc_value c.in-Some-program.program) c.self.inside.own c.args.self.now (ap (λ p. last_values (program_layer p ++ c.self.inside.own)) (sym c.in-Some-program.is) ∙ c.self.view_is) c.in-None.ensures.text)

pub returns-in-None-program-clause-text : goal.returns-in-None-program-clause-text
returns-in-None-program-clause-text c =
    given-program_layer (chars c.args.name.now) [] c.self.inside.own c.args.self.now (ap (λ p. last_values (program_layer p ++ c.self.inside.own)) (sym c.in-None-program.is) ∙ c.self.view_is) c.in-None.ensures.text

pub returns-in-None-program-clause-value : goal.returns-in-None-program-clause-value
returns-in-None-program-clause-value c =
    ap (option_and_then (value_of_text (chars c.args.name.now)))
    (given-program_layer (chars c.args.name.now) [] c.self.inside.own c.args.self.now (ap (λ p. last_values (program_layer p ++ c.self.inside.own)) (sym c.in-None-program.is) ∙ c.self.view_is) c.in-None.ensures.text)
