use Rattle.std.proofs.Common.{Some, ap}
use Rattle.kt_child.proofs.PartSteps.{taking_more, taking_over}
use Rattle.kt_child.proofs.ending.parts.read_in_parts.Goals as goal

pub parts-preserved : goal.parts-preserved
parts-preserved g c =
    let a = c.in_default.ensures.asked in
    record {
      taking =
          taking_more g.R.PartReader.has_taken g.O.Os.leads c.args.path.now c.args.part c.args.limit c.args.os.now c.parts.os c.read_next_part.new.os
          c.parts.reader c.read_next_part.new.reader c.parts.got c.read_next_part.new.got a.0 c.parts.invariant.taking a.1 a.2 a.4 a.5;
      room = c.in_default.ensures.more.1;
    }

pub returns-in-Some : goal.returns-in-Some
returns-in-Some g c =
    let a = c.in-Some.ensures.asked in
    taking_over g.R.PartReader.has_taken g.O.Os.leads c.args.path.now c.args.part c.args.limit c.args.os.now c.parts.os c.read_next_part.new.os
    c.parts.reader c.read_next_part.new.reader c.parts.got a.0 c.in-Some.end c.parts.invariant.taking a.1 a.2 (λ whole. a.3 (ap (λ t. Some t) whole))
