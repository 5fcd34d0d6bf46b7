use Rattle.std.proofs.Common.{◌∙◌, ap, not, ◌&&◌, Bool, is_some}
use Rattle.kt_metadata.proofs.Common.{chars, form_of_property}
use Rattle.kt_metadata.proofs.table.is_kyuafile_property.Goals as goal

pub returns-then-not-is_equal_to : goal.returns-then-not-is_equal_to
unfolding chars
returns-then-not-is_equal_to c = c.is_some.ensures ∙ ap is_some c.form_of_property.ensures ∙ ap (λ (b : Bool). not b && is_some (form_of_property c.args.name.now)) c.if-not-is_equal_to.ensures

pub returns-else-not-is_equal_to : goal.returns-else-not-is_equal_to
unfolding chars
returns-else-not-is_equal_to c = ap not c.if-not-is_equal_to.false ∙ ap (λ (b : Bool). not b && is_some (form_of_property c.args.name.now)) c.if-not-is_equal_to.ensures
