use Rattle.std.proofs.Common.{◌≡◌, ◌∙◌, ◌∷◌, ◌++◌, [], ap, sym, subst, rules}
use Rattle.kt_metadata.proofs.Common.{chars, last_values, twice, HaveParsedValues, name_with_value}
use Rattle.kt_metadata.proofs.Layers.{next-entry}
use Rattle.kt_metadata.proofs.layer.Layer.put_definitions.Goals as goal

pub loop-name-preserved : goal.loop-name-preserved
loop-name-preserved c =
    let parts : c.loop-name.name-iterator ≡ (c.in-Some.name.now, c.in-Some.given.now) ∷ c.next.new.self = search rules in (
      next-entry c.loop-name.self c.put_definition.new.self c.as_str.result.now c.in_ok-copy.field-0 c.in-Some.name.now c.in-Some.given.now c.loop-name.name-iterator c.next.new.self
          (search rules) c.in_ok-copy.ensures c.in_ok-put_definition.ensures.ok parts c.loop-name.invariant.0,
      (subst HaveParsedValues parts c.loop-name.invariant.1).1,
      c.in_ok-put_definition.ensures.ok ∙ sym (twice (c.loop-name.self ++ name_with_value (chars c.as_str.result.now) c.in_ok-copy.field-0.text ∷ [])) ∙ ap last_values (sym c.in_ok-put_definition.ensures.ok),
    )
