use Rattle.std.proofs.Common.{◌∙◌, ap, map, List, ℕ}
use Rattle.kt_config.proofs.Common.{chars, value_of, variable_in}
use Rattle.kt_config.proofs.Entries.{found}
use Rattle.kt_config.proofs.Puttings.{first-settled}
use Rattle.kt_config.proofs.suite_variables.SuiteVariables.get.Goals as goal

pub returns : goal.returns
returns c =
    c.get.ensures.value ∙ found c.as_str.result.now c.as_str.utf8 c.self.inside.values.entries
    ∙ first-settled (chars c.as_str.result.now) (map variable_in c.self.inside.values.entries) c.self.invariant
    ∙ ap (value_of (chars c.as_str.result.now)) c.self.view_is
    ∙ ap (λ (q : List ℕ). value_of q c.args.self.now) c.as_str.ensures.characters
