use Rattle.std.proofs.Common.{ap, sym}
use Rattle.kt_metadata.proofs.Common.{chars, need_text}
use Rattle.kt_metadata.proofs.host.Need.text.Goals as goal

pub returns-in-File : goal.returns-in-File
unfolding chars
returns-in-File c = ap need_text (sym c.in-File.is)

pub returns-in-Program : goal.returns-in-Program
unfolding chars
returns-in-Program c = ap need_text (sym c.in-Program.is)
