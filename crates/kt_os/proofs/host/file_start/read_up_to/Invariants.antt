use Rattle.std.proofs.Common.{◌-◌, length}
use Rattle.kt_os.proofs.HostReads.{HasRead}
use Rattle.kt_os.proofs.host.file_start.read_up_to.Given as goal

-- The bytes so far are a prefix of the file.
abbrev pub invariant-loop-buffer : goal.invariant-loop-buffer
invariant-loop-buffer g l = HasRead l.limit (g.F.Read.remaining l.initial.file) (g.F.Read.remaining l.file) l.bytes

abbrev pub decreases-loop-buffer : goal.decreases-loop-buffer
decreases-loop-buffer g l = l.limit - length l.bytes
