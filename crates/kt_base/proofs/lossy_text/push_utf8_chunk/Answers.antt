use Rattle.kt_base.proofs.Common.{take_rest}
use Rattle.kt_base.proofs.Fronts.{all_text, one_fault}
use Rattle.kt_base.proofs.lossy_text.push_utf8_chunk.Goals as goal

pub returns-in_ok-push_str-in-Ok-clause-text : goal.returns-in_ok-push_str-in-Ok-clause-text
returns-in_ok-push_str-in-Ok-clause-text c =
    let cases = c.in-Ok.ensures.cases in
    all_text c.args.text.now c.push_str.new.self c.args.bytes.now cases.1 (rw (← cases.0) c.in_ok-push_str-in-Ok.ensures.ok)

pub returns-in_ok-push-in-Err-clause-text : goal.returns-in_ok-push-in-Err-clause-text
returns-in_ok-push-in-Err-clause-text c =
    let valid = rw (← c.valid_up_to-end.ensures) at c.in-Err.ensures.cases.1 in
    rw take_rest (one_fault c.args.text.now c.push_if_utf8.new.text c.push.new.self c.args.bytes.now c.valid_up_to-end.result valid (c.in_ok-push_if_utf8-in-Err.ensures valid.front) c.in_ok-push-in-Err.ensures.ok)
