use Rattle.std.proofs.Common.{◌∙◌, refl}
use Rattle.std.proofs.lemmas.Result.{on_ok_weaker}
use Rattle.kt_child.proofs.Common.{chars}
use Rattle.kt_child.proofs.planning.environment.push_common_variables.Goals as goal

pub returns : goal.returns
unfolding chars
returns c = on_ok_weaker c.push_variable-3.result (λ e. e ∙ rw (c.in_ok-push_variable-2.ensures, c.in_ok-push_variable.ensures, c.requires, c.as_str.ensures.characters, c.as_str-2.ensures.characters) refl) c.push_variable-3.ensures
