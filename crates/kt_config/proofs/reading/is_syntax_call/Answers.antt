use Rattle.std.proofs.Common.{rules}
use Rattle.kt_config.proofs.Common.{chars}
use Rattle.kt_config.proofs.reading.is_syntax_call.Goals as goal

pub returns-then-is_equal_to : goal.returns-then-is_equal_to
unfolding chars
returns-then-is_equal_to c = search rules

pub returns-else-is_equal_to : goal.returns-else-is_equal_to
unfolding chars
returns-else-is_equal_to c = search rules
