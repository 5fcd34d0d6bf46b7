use Rattle.std.proofs.Common.{refl}
use Rattle.kt_child.proofs.Common.{chars}
use Rattle.kt_child.proofs.planning.words.atf_variable_arg.Goals as goal

pub returns : goal.returns
unfolding chars
returns c = rw (c.in_ok-push_str-2.ensures.ok, c.in_ok-push_str.ensures.ok, c.in_ok-word.ensures, c.as_str.ensures.characters, c.as_str-2.ensures.characters) refl
