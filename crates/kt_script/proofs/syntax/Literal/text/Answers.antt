use Rattle.std.proofs.Common.{◌≡◌, ◌∙◌, ap, sym, subst, IfOk}
use Rattle.kt_script.proofs.Common.{chars, Literal}
use Rattle.kt_script.specs.declared.syntax.Literal.TheVariants.{Truth}
use Rattle.kt_script.specs.LiteralText.{text_of}
use Rattle.kt_script.proofs.syntax.Literal.text.Goals as goal

pub returns-in-Truth-true : goal.returns-in-Truth-true
unfolding chars
returns-in-Truth-true c =
    subst (λ (v : Literal). IfOk c.from_str.result (λ text. text ≡ text_of v)) (sym (c.in-Truth-true.is ∙ ap Truth (sym c.in-Truth-true.field-0-is ∙ c.in-Truth-true.field-0-test))) c.from_str.ensures

pub returns-in-Truth-false : goal.returns-in-Truth-false
unfolding chars
returns-in-Truth-false c =
    subst (λ (v : Literal). IfOk c.from_str-in-Truth-false.result (λ text. text ≡ text_of v)) (sym (c.in-Truth-false.is ∙ ap Truth (sym c.in-Truth-false.field-0-is ∙ c.in-Truth-false.field-0-test))) c.from_str-in-Truth-false.ensures
