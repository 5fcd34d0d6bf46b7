use Rattle.std.proofs.Common.{◌∙◌, ap, List, ℕ, codes}
use Rattle.kt_plan.proofs.Common.{chars, utf8, shows_as, quoted_message}
use Rattle.kt_plan.proofs.SelectionMessages.{chars-config}
use Rattle.kt_plan.proofs.selection_error.print_variable.Goals as goal

pub returns : goal.returns
unfolding chars
returns g c = shows_as (ap (λ (text : List ℕ). utf8 (quoted_message (codes "variable") c.args.name.now text)) (ap chars c.message.ensures ∙ chars-config c.args.fault)) c.print_quoted.ensures
