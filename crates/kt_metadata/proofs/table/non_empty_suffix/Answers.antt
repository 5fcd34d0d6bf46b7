use Rattle.std.proofs.Common.{List, ℕ, sym, ap, ◌∙◌, ◌++◌}
use Rattle.kt_metadata.proofs.Fronts.{non_empty_suffix-found, non_empty_suffix-none}
use Rattle.kt_metadata.proofs.table.non_empty_suffix.Goals as goal

pub returns-in-None : goal.returns-in-None
returns-in-None c = sym (non_empty_suffix-none c.args.front.now c.args.text.now c.utf8.front c.utf8.text c.in-None.ensures.cases)

pub returns-in-Some : goal.returns-in-Some
returns-in-Some c =
    let cut = c.in-Some.ensures.cases in
    c.non_empty_text.ensures ∙ sym (non_empty_suffix-found c.args.front.now c.args.text.now c.in-Some.part.now c.utf8.front
    (cut.1.1 ∙ ap (λ (rest : List ℕ). c.args.front.now ++ rest) (sym cut.2)))
