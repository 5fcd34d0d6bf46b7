use Rattle.kt_base.proofs.PartTexts.{exited_text, signaled_text, unended_text}
use Rattle.kt_base.proofs.verdict.ReasonParts.with_outcome.Goals as goal

pub returns-in-Exited : goal.returns-in-Exited
returns-in-Exited c = exited_text _ c.text.result.now c.args.phrase c.args.ending c.in-Exited.code c.one_number_parts.ensures c.text.ensures c.in-Exited.is

pub returns-in-Signaled : goal.returns-in-Signaled
returns-in-Signaled c =
    signaled_text _ c.text-in-Signaled.result.now _ c.args.phrase c.args.ending c.in-Signaled.signal c.in-Signaled.core c.one_number_parts-in-Signaled.ensures c.text-in-Signaled.ensures c.core_dump_text.ensures c.in-Signaled.is

pub returns-in_default : goal.returns-in_default
returns-in_default c = unended_text _ c.text-in_default.result.now c.args.phrase c.args.ending c.from_text.ensures c.text-in_default.ensures c.in_default.not-Exited c.in_default.not-Signaled
