use Rattle.std.proofs.Common.{rules}
use Rattle.kt_metadata.proofs.Common.{chars}
use Rattle.kt_metadata.proofs.list_keys.create_custom_name.Goals as goal

pub returns : goal.returns
unfolding chars
returns c = search rules
