use Rattle.std.proofs.Common.{◌∙◌, [], refl}
use Rattle.kt_report.proofs.Runs.{at_end, boundary, run_alone, run_and_more}
use Rattle.kt_report.proofs.escaping.push_escaped_text.Goals as goal

pub split_at-requires : goal.split_at-requires
split_at-requires c = boundary c.args.attribute c.loop-rest.rest.now c.unescaped_length.result (rw c.as_bytes.ensures.value at c.unescaped_length.ensures)

pub returns-in_default : goal.returns-in_default
returns-in_default c =
    let alone = run_alone c.args.attribute c.loop-rest.escaped c.push_str.new.self c.loop-rest.rest.now c.unescaped_length.result (rw c.as_bytes.ensures.value at c.unescaped_length.ensures) c.loop-rest.invariant.1
    (rw (← c.split_at.ensures.back, ← c.chars-characters.ensures.rest) c.in_default.ensures.steps.0.0) (rw (← c.split_at.ensures.front) c.in_ok-push_str.ensures.ok) in
    at_end c.args.attribute c.push_str.new.self [] _ (alone ∙ c.loop-rest.invariant.0) refl

pub loop-rest-preserved : goal.loop-rest-preserved
loop-rest-preserved c =
    let more = run_and_more c.args.attribute c.loop-rest.escaped c.push_str.new.self c.push_escaped_char.new.text c.loop-rest.rest.now c.as_str-rest.result.now c.unescaped_length.result c.in-Some.c
    (rw c.as_bytes.ensures.value at c.unescaped_length.ensures) c.loop-rest.invariant.1 (rw (← c.split_at.ensures.back, ← c.chars-characters.ensures.rest, c.as_str-rest.ensures) c.in-Some.ensures.steps.0)
    (rw (← c.split_at.ensures.front) c.in_ok-push_str.ensures.ok) c.in_ok-push_escaped_char.ensures in
    (more ∙ c.loop-rest.invariant.0, c.as_str-rest.utf8)

pub returns : goal.returns
returns c = at_end c.args.attribute c.loop-rest.escaped c.loop-rest.rest.now _ c.loop-rest.invariant.0 c.loop-rest-test.ensures
