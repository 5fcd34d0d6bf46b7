use Rattle.std.proofs.Common.{sym, arith}
use Rattle.kt_metadata.proofs.Encodings.{non_empty_text-empty, non_empty_text-some}
use Rattle.kt_metadata.proofs.table.non_empty_text.Goals as goal

pub returns-then-is_empty : goal.returns-then-is_empty
returns-then-is_empty c = sym (non_empty_text-empty c.args.text.now (grind arith))

pub returns : goal.returns
returns c = sym (non_empty_text-some c.args.text.now c.utf8.text (λ e. grind arith))
