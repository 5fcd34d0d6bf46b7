use Rattle.std.proofs.Common.{◌∙◌, ap, List, ℕ}
use Rattle.kt_config.proofs.Common.{chars, variables_of}
use Rattle.kt_config.proofs.Entries.{suite-found}
use Rattle.kt_config.proofs.suites.Suites.get.Goals as goal

pub returns : goal.returns
returns c =
    c.get.ensures.value ∙ suite-found c.as_str.result.now c.as_str.utf8 c.self.inside.groups.entries
    ∙ ap (variables_of (chars c.as_str.result.now)) c.self.view_is
    ∙ ap (λ (q : List ℕ). variables_of q c.args.self.now) c.as_str.ensures.characters
