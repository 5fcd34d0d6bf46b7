use Rattle.std.proofs.Common.{◌≡◌, ◌∙◌, ap, sym, Some, None, false}
use Rattle.kt_metadata.proofs.Common.{option_copied, option_map, chars, row_in, is_custom}
use Rattle.kt_metadata.proofs.Tables.{form-found}
use Rattle.kt_metadata.proofs.table.form_of_property.Goals as goal

pub returns-in-Some : goal.returns-in-Some
unfolding chars
returns-in-Some c =
    let other : is_custom c.args.name.now ≡ false = ap is_custom (sym c.as_str.ensures.characters) ∙ sym c.is_custom.ensures ∙ c.if-is_custom.false in
    sym (form-found c.args.name.now (Some c.in-Some.row.now) other (ap (λ o. option_map row_in (option_copied o)) (sym c.in-Some.is) ∙ c.row_with_name.ensures))

pub returns-in-None : goal.returns-in-None
unfolding chars
returns-in-None c =
    let other : is_custom c.args.name.now ≡ false = ap is_custom (sym c.as_str.ensures.characters) ∙ sym c.is_custom.ensures ∙ c.if-is_custom.false in
    sym (form-found c.args.name.now None other (ap (λ o. option_map row_in (option_copied o)) (sym c.in-None.is) ∙ c.row_with_name.ensures))
