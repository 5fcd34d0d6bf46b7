use Rattle.std.proofs.Common.{List, ℕ, ◌++◌, ◌∙◌, ap, sym, codes, not}
use Rattle.kt_metadata.proofs.Common.{find, option_copied, chars, is_found, need_text, required_objects}
use Rattle.kt_metadata.proofs.Rows.{around_found}
use Rattle.kt_metadata.proofs.reasons.need_reason.Goals as goal

pub returns-in_ok-reason-in-Some : goal.returns-in_ok-reason-in-Some
unfolding chars
returns-in_ok-reason-in-Some c =
    around_found (need_text c.args.need) (codes "' not found") c.in-Some.word.now _ (find (λ (word : List ℕ). not (is_found c.args.need c.args.host.now word)) (required_objects c.args.need c.args.meta.now))
    (sym c.first_missing_object.ensures ∙ ap option_copied c.in-Some.is)
    (c.in_ok-reason-in-Some.ensures
    ∙ ap (λ (front : List ℕ). front ++ (chars c.as_str.result.now ++ codes "' not found")) c.text.ensures
    ∙ ap (λ (word : List ℕ). need_text c.args.need ++ (word ++ codes "' not found")) c.as_str.ensures.characters)
