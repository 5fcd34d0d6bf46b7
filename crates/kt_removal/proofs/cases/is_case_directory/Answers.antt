use Rattle.std.proofs.Common.{◌≡◌, ◌++◌, ◌∷◌, Some, sym, ap, ◌∙◌, rules, tests}
use Rattle.kt_removal.specs.Common.{utf8}
use Rattle.std.proofs.lemmas.Slice.Eq.{strip_prefix_is}
use Rattle.std.proofs.lemmas.Bool.Decides.{Decides-eqb}
use Rattle.kt_removal.proofs.cases.is_case_directory.Goals as goal

pub returns-then-slash-eq47 : goal.returns-then-slash-eq47
returns-then-slash-eq47 c number =
    let name = c.in-Some-split_first.name.now in
    let whole = strip_prefix_is Decides-eqb c.as_bytes.result.now c.as_bytes-2.result.now (Some c.in-Some.below) c.in-Some.ensures.cases in
    let slash : c.in-Some-split_first.slash.now ≡ 47 = search (rules, tests) in
    let below = c.in-Some-split_first.ensures.cases.0 ∙ ap (λ x. x ∷ name) slash in (
      name,
      sym c.as_bytes.ensures ∙ whole ∙ ap (λ t. t ++ c.in-Some.below.now) c.as_bytes-2.ensures ∙ ap (λ t. utf8 c.args.root.now ++ t) below,
      c.is_number.ensures number,
    )
