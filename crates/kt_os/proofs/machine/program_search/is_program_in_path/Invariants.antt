use Rattle.std.proofs.Common.{Bool, length}
use denote.Text.{Utf8}
use denote.Shadow.{shadow}
use Rattle.kt_os.proofs.Common.{SearchesDirectories, directories}
use Rattle.kt_os.proofs.machine.program_search.is_program_in_path.Given as goal

-- the result of the search in the remaining directories is the result of the whole search
abbrev pub invariant-loop-directory : goal.invariant-loop-directory
invariant-loop-directory g l =
    ((answer : Bool) (new : g.row.M.Denot) → SearchesDirectories g.M.HostFiles.answers l.name (directories l.rest) answer l.machine new
    → SearchesDirectories g.M.HostFiles.answers l.name (directories l.among) answer l.fn.machine new) × shadow (Utf8 l.rest)

abbrev pub decreases-loop-directory : goal.decreases-loop-directory
decreases-loop-directory g l = length l.rest
