use Rattle.std.proofs.Common.{rules}
use Rattle.kt_metadata.proofs.Common.{chars}
use Rattle.kt_metadata.proofs.list_keys.parse_custom_key.Goals as goal

pub returns-in-None : goal.returns-in-None
unfolding chars
returns-in-None c = search rules

pub returns-in_ok-name-in-Some : goal.returns-in_ok-name-in-Some
unfolding chars
returns-in_ok-name-in-Some c = search rules
