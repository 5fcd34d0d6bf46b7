use Rattle.std.proofs.Common.{◌∙◌, ap, List}
use Rattle.kt_metadata.proofs.Common.{chars, option_map, Variable, value_of, PropertyDefinition, texts_of, parsed_value}
use Rattle.kt_metadata.proofs.Layers.{text-found, value-found}
use Rattle.kt_metadata.proofs.layer.Layer.get.Goals as goal

pub returns-clause-text : goal.returns-clause-text
returns-clause-text c =
    ap (option_map (λ (it : PropertyDefinition). it.text)) c.get.ensures.value ∙ text-found c.args.name.now c.utf8.name c.self.inside.given.entries c.self.invariant
    ∙ ap (value_of (chars c.args.name.now)) c.self.view_is

pub returns-clause-value : goal.returns-clause-value
returns-clause-value c =
    ap (option_map (λ (it : PropertyDefinition). it.value)) c.get.ensures.value ∙ value-found c.args.name.now c.utf8.name c.self.inside.given.entries c.self.invariant
    ∙ ap (λ (pairs : List Variable). parsed_value (texts_of pairs) (chars c.args.name.now)) c.self.view_is
