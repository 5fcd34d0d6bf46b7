use Rattle.std.specs.Prelude.{⊤}
use Rattle.kt_dbfile.proofs.ends.has_contiguous_positions.Given as goal

abbrev pub invariant-loop-place : goal.invariant-loop-place
invariant-loop-place l = ⊤
