use Rattle.std.proofs.Common.{◌-◌, ◌<◌}
use Rattle.kt_child.proofs.PartSteps.{Taking}
use Rattle.kt_child.proofs.ending.parts.read_in_parts.Given as goal

abbrev pub invariant-parts : goal.invariant-parts
invariant-parts g l =
    record {
      taking : Taking g.R.PartReader.has_taken g.O.Os.leads l.path l.part l.limit l.initial.os l.os l.reader l.got;
      room : l.got < l.limit;
    }

abbrev pub decreases-parts : goal.decreases-parts
decreases-parts g l = l.limit - l.got
