use Rattle.std.proofs.Common.{◌≡◌, ◌∙◌, ap, map, [], ◌∷◌, ◌++◌, List, ℕ}
use Rattle.kt_config.proofs.Common.{Variable, last_values, variable_in}
use Rattle.kt_config.proofs.Entries.{inserted}
use Rattle.kt_config.proofs.Puttings.{put, put-settled, settled-put}
use Rattle.kt_config.proofs.suite_variables.SuiteVariables.put_variable.Goals as goal

pub invariant_of-self-2 : goal.invariant_of-self-2
invariant_of-self-2 c =
    let old = map variable_in c.self.inside.values.entries in
    let e : map variable_in c.insert.new.self.entries ≡ put old c.args.variable
    = ap (map variable_in) c.in_ok-insert.ensures.entries ∙ inserted c.into_key.result c.args.variable.value c.self.inside.values.entries
    ∙ ap (λ (name : List ℕ). put old (record { name = name; value = c.args.variable.value })) c.into_key.ensures in
    settled-put old (map variable_in c.insert.new.self.entries) c.args.variable c.self.invariant e

pub returns-clause-ok : goal.returns-clause-ok
returns-clause-ok c =
    let old = map variable_in c.self.inside.values.entries in
    let e : map variable_in c.insert.new.self.entries ≡ put old c.args.variable
    = ap (map variable_in) c.in_ok-insert.ensures.entries ∙ inserted c.into_key.result c.args.variable.value c.self.inside.values.entries
    ∙ ap (λ (name : List ℕ). put old (record { name = name; value = c.args.variable.value })) c.into_key.ensures in
    put-settled old (map variable_in c.insert.new.self.entries) c.args.variable c.self.invariant e
    ∙ ap (λ (xs : List Variable). last_values (xs ++ c.args.variable ∷ [])) c.self.view_is
