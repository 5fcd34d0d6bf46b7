use Rattle.std.proofs.Common.{◌≡◌, ◌&&◌, drop}
use Rattle.std.specs.List.{list_all}
use Rattle.kt_report.proofs.Runs.{is_unescaped}
use Rattle.kt_report.proofs.escaping.are_unescaped.Given as goal

abbrev pub invariant-loop-byte : goal.invariant-loop-byte
invariant-loop-byte l = list_all (is_unescaped l.attribute) l.bytes ≡ (l.all && list_all (is_unescaped l.attribute) (drop l.byte-index l.bytes))
