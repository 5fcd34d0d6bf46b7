use Rattle.std.proofs.Common.{◌≡◌, ◌+◌, ◌≤◌, drop}
use Rattle.kt_script.proofs.Common.{line_at_end}
use Rattle.kt_script.proofs.script.line_at_end.Given as goal

abbrev pub invariant-loop-c : goal.invariant-loop-c
invariant-loop-c l = (line_at_end l.line (drop l.c-index l.text) ≡ line_at_end l.from l.text) × (l.line ≤ l.from + l.c-index)
