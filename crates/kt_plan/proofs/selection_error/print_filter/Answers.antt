use Rattle.std.proofs.Common.{◌∙◌, ap, List, ℕ, codes}
use Rattle.kt_plan.proofs.Common.{chars, utf8, shows_as, quoted_message}
use Rattle.kt_plan.proofs.SelectionMessages.{chars-filter}
use Rattle.kt_plan.proofs.selection_error.print_filter.Goals as goal

pub returns : goal.returns
unfolding chars
returns g c = shows_as (ap (λ (text : List ℕ). utf8 (quoted_message (codes "filter") c.args.word.now text)) (ap chars c.message.ensures ∙ chars-filter c.args.fault)) c.print_quoted.ensures
