use Rattle.std.proofs.Common.{◌∙◌, ◌++◌, ap, sym, List}
use Rattle.kt_metadata.proofs.Common.{Variable, last_values, program_layer}
use Rattle.std.proofs.lemmas.Result.{on_ok_weaker}
use Rattle.kt_metadata.proofs.Layers.{overlaid-over, laid-over}
use Rattle.kt_metadata.proofs.props.Props.copy_into.Goals as goal

pub returns-in-None : goal.returns-in-None
returns-in-None c = on_ok_weaker c.put_definitions.result (λ e.
    e ∙ sym (overlaid-over c.args.layer.now c.self.inside.own)
    ∙ ap (λ (pairs : List Variable). last_values (c.args.layer.now ++ pairs)) (ap (λ p. last_values (program_layer p ++ c.self.inside.own)) (sym c.in-None.is) ∙ c.self.view_is)) c.put_definitions.ensures

pub returns-in_ok-put_definitions-in-Some : goal.returns-in_ok-put_definitions-in-Some
returns-in_ok-put_definitions-in-Some c = on_ok_weaker c.put_definitions-in-Some-2.result (λ e.
    laid-over c.args.layer.now c.in-Some.program.value c.self.inside.own c.put_definitions-in-Some.new.self c.put_definitions-in-Some-2.new.self c.args.self.now
    (ap (λ p. last_values (program_layer p ++ c.self.inside.own)) (sym c.in-Some.is) ∙ c.self.view_is)
    (c.in_ok-put_definitions-in-Some.ensures ∙ ap (λ (pairs : List Variable). last_values (c.args.layer.now ++ pairs)) (c.layer.ensures ∙ c.deref.ensures)) e) c.put_definitions-in-Some-2.ensures
