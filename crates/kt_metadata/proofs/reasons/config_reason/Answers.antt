use Rattle.std.proofs.Common.{List, ℕ, ◌++◌, ◌∙◌, ap, sym, codes}
use Rattle.kt_metadata.proofs.Common.{find, option_copied, chars}
use Rattle.kt_metadata.specs.Configured.{is_undefined}
use Rattle.kt_metadata.proofs.Rows.{around_found}
use Rattle.kt_metadata.proofs.reasons.config_reason.Goals as goal

pub returns-in_ok-reason-in-Some : goal.returns-in_ok-reason-in-Some
unfolding chars
returns-in_ok-reason-in-Some c =
    let undefined = is_undefined c.args.config.now c.args.suite.now in
    around_found (codes "Required configuration property '") (codes "' not defined") c.in-Some.word.now _ (find undefined c.args.meta.now.required_configs)
    (ap (find undefined) (sym c.as_slice.ensures) ∙ sym c.first_undefined_name.ensures ∙ ap option_copied c.in-Some.is)
    (c.in_ok-reason-in-Some.ensures
    ∙ ap (λ (w : List ℕ). codes "Required configuration property '" ++ (w ++ codes "' not defined")) c.as_str.ensures.characters)
