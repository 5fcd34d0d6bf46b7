use Rattle.std.proofs.Common.{false, take, flat_map}
use Rattle.kt_cli.proofs.Common.{Emits, utf8, case_line}
use Rattle.kt_cli.proofs.commands.listing.write_listing.Given as goal

-- the lines of the cases before the current case are written
abbrev pub invariant-loop-case : goal.invariant-loop-case
invariant-loop-case g l = Emits (g.O.Write.contents l.fn.out) (g.O.Write.contents l.out) false (flat_map (λ k. utf8 (case_line k)) (take l.case-index l.case-items))
