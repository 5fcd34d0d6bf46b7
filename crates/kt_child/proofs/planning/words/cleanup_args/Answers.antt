use Rattle.std.proofs.Common.{refl}
use Rattle.kt_child.proofs.Common.{chars}
use Rattle.kt_child.proofs.planning.words.cleanup_args.Goals as goal

pub returns : goal.returns
unfolding chars
returns c = rw (c.in_ok-push_concat-2.ensures, c.in_ok-push_variable_args.ensures, c.in_ok-push_concat.ensures, c.new-words.ensures, c.as_str.ensures.characters, c.as_str-2.ensures.characters) refl
