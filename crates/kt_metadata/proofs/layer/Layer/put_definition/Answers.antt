use Rattle.std.proofs.Common.{◌∙◌, ap, List, [], ◌∷◌, ◌++◌, ℕ, subst, sym}
use Rattle.kt_metadata.proofs.Common.{chars, Variable, last_values, HasParsedValue, pair_in, name_with_value}
use Rattle.kt_metadata.proofs.Layers.{inserted-last, still-sound}
use Rattle.kt_metadata.proofs.layer.Layer.put_definition.Goals as goal

pub invariant_of-self-2 : goal.invariant_of-self-2
invariant_of-self-2 c =
    still-sound c.in_ok-name.name c.args.given c.self.inside.given.entries c.insert.new.self.entries
    (subst (λ (bytes : List ℕ). HasParsedValue (chars bytes) c.args.given) (sym c.in_ok-name.ensures.ok) c.requires) c.self.invariant c.in_ok-insert.ensures.entries

pub returns-clause-ok : goal.returns-clause-ok
returns-clause-ok c =
    inserted-last c.in_ok-name.name c.args.given c.self.inside.given.entries c.insert.new.self.entries
    (subst (λ (bytes : List ℕ). HasParsedValue (chars bytes) c.args.given) (sym c.in_ok-name.ensures.ok) c.requires) c.self.invariant c.in_ok-insert.ensures.entries
    ∙ ap (λ (pairs : List Variable). last_values (pairs ++ pair_in (c.in_ok-name.name, c.args.given) ∷ [])) c.self.view_is
    ∙ ap (λ (bytes : List ℕ). last_values (c.args.self.now ++ name_with_value (chars bytes) c.args.given.text ∷ [])) c.in_ok-name.ensures.ok
