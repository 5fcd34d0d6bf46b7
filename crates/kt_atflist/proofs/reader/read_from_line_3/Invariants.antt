use Rattle.std.proofs.Common.{◌≡◌, ◌+◌, ◌≤◌, length}
use Rattle.kt_atflist.proofs.Common.{lines, read_rest, initial_state}
use Rattle.kt_atflist.proofs.reader.read_from_line_3.Given as goal

-- The result of the remaining lines in the current state is the result of all lines.
abbrev pub invariant-loop-first : goal.invariant-loop-first
invariant-loop-first l = record {
  gives : read_rest l.line l.reading (lines l.rest) ≡ read_rest 3 initial_state (lines l.text);
  few : l.line + length l.rest ≤ 3 + length l.text;
}

abbrev pub decreases-loop-first : goal.decreases-loop-first
decreases-loop-first l = length l.rest
