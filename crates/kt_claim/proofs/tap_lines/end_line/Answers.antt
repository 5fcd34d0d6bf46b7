use Rattle.std.proofs.Common.{List, ℕ, ◌++◌, ◌∷◌, [], false, ap, sym, subst, ◌∙◌}
use Rattle.kt_claim.proofs.Common.{facts_of_kind, state_of, HasLines, without_trailing_blanks, Nothing}
use Rattle.kt_claim.proofs.Lines.{line_ends}
use Rattle.kt_claim.proofs.tap_lines.end_line.Goals as goal

pub returns : goal.returns
returns c = λ fed short h. subst (λ (kept : List ℕ). HasLines c.in_ok-after.after (record { begun = Nothing; kept = kept; held_cr = false }) (fed ++ 10 ∷ [])) (sym c.clear.ensures.items)
    (line_ends c.args.tally c.in_ok-after.after (state_of c.args.line.now) c.kind_at_end.result fed (c.kind_at_end.ensures.plain, c.kind_at_end.ensures.reason)
    (λ line ls is few t. c.in_ok-after.ensures line ls (is ∙ ap (facts_of_kind c.kind_at_end.result) (sym (c.trim_trailing_blanks.ensures ∙ ap without_trailing_blanks c.deref.ensures.value))) few t) short h)
