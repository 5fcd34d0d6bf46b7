use Rattle.std.proofs.Common.{ap, sym}
use Rattle.kt_metadata.proofs.Common.{chars, user_text}
use Rattle.kt_metadata.proofs.value.user_keyword.Goals as goal

pub returns-in-Any : goal.returns-in-Any
unfolding chars
returns-in-Any c = ap user_text (sym c.in-Any.is)

pub returns-in-Root : goal.returns-in-Root
unfolding chars
returns-in-Root c = ap user_text (sym c.in-Root.is)

pub returns-in-Unprivileged : goal.returns-in-Unprivileged
unfolding chars
returns-in-Unprivileged c = ap user_text (sym c.in-Unprivileged.is)
