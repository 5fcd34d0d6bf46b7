use Rattle.std.proofs.Common.{rules, ◌<◌, length}
use Rattle.kt_atflist.proofs.FirstLines.{first_is_last, first_ends}
use Rattle.kt_atflist.proofs.reader.split_first_line.Goals as goal

pub returns-in-None-clause-value : goal.returns-in-None-clause-value
returns-in-None-clause-value c =
    let some : 0 < length c.args.text.now = search rules in
    first_is_last c.args.text.now c.split_at.result.0.now c.split_at.result.1.now c.line_length.result some c.line_length.ensures.value c.split_at.ensures.front c.split_at.ensures.back c.in-None.ensures.cases

pub returns-in-Some-clause-value : goal.returns-in-Some-clause-value
returns-in-Some-clause-value c =
    first_ends c.args.text.now c.split_at.result.0.now c.split_at.result.1.now c.in-Some.after.now c.line_length.result _ c.line_length.ensures.value c.split_at.ensures.front c.split_at.ensures.back c.in-Some.ensures.cases.0
