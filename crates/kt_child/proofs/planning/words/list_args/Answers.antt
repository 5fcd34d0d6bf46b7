use Rattle.std.proofs.Common.{refl}
use Rattle.kt_child.proofs.Common.{chars}
use Rattle.kt_child.proofs.planning.words.list_args.Goals as goal

pub returns : goal.returns
unfolding chars
returns c = rw (c.in_ok-push_text.ensures, c.in_ok-push_variable_args.ensures, c.new-words.ensures) refl
