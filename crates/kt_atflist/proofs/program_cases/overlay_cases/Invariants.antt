use Rattle.std.proofs.Common.{◌≡◌, ◌++◌, map}
use Rattle.kt_atflist.proofs.Common.{overlaid_case}
use Rattle.kt_atflist.proofs.program_cases.overlay_cases.Given as goal

-- The cases so far, followed by the remaining cases with the program's properties added, are all
-- cases with these properties added.
abbrev pub invariant-loop-case : goal.invariant-loop-case
invariant-loop-case l = l.cases ++ map (overlaid_case l.props) l.case-iterator.rest.items ≡ map (overlaid_case l.props) l.fn.found
