use Rattle.std.proofs.Common.{sym, ◌∙◌}
use Rattle.kt_suite.proofs.FirstMatches.{no_match, selected_with}
use Rattle.kt_suite.proofs.selecting.select_item.Goals as goal

pub returns-in-None-clause-selected : goal.returns-in-None-clause-selected
returns-in-None-clause-selected c =
    c.is_empty.ensures ∙ (no_match c.args.filters.now c.args.item.now c.args.unmatched.now.items (sym c.first_match.ensures ∙ c.in-None.is)).0

pub returns-in-None-clause-unmatched : goal.returns-in-None-clause-unmatched
returns-in-None-clause-unmatched c =
    (no_match c.args.filters.now c.args.item.now c.args.unmatched.now.items (sym c.first_match.ensures ∙ c.in-None.is)).1

pub returns-in-Some-clause-selected : goal.returns-in-Some-clause-selected
returns-in-Some-clause-selected c = selected_with c.args.filters.now c.args.item.now c.in-Some.first (sym c.first_match.ensures ∙ c.in-Some.is)
