use Rattle.kt_base.proofs.PartTexts.{exit_codes_text, signals_text, tests_failed_text, memory_text, disk_text, count_text}
use Rattle.kt_base.proofs.verdict.ReasonParts.with_numbers.Goals as goal

pub returns-in-OtherExitCode : goal.returns-in-OtherExitCode
returns-in-OtherExitCode c = exit_codes_text _ c.args.phrase c.args.m c.args.n c.two_number_parts.ensures c.in-OtherExitCode.is

pub returns-in-OtherSignal : goal.returns-in-OtherSignal
returns-in-OtherSignal c = signals_text _ c.args.phrase c.args.m c.args.n c.two_number_parts-in-OtherSignal.ensures c.in-OtherSignal.is

pub returns-in-TestsFailed : goal.returns-in-TestsFailed
returns-in-TestsFailed c = tests_failed_text _ c.args.phrase c.args.m c.args.n c.two_number_parts-in-TestsFailed.ensures c.in-TestsFailed.is

pub returns-in-MemoryNeeded : goal.returns-in-MemoryNeeded
returns-in-MemoryNeeded c = memory_text _ c.args.phrase c.args.m c.args.n c.two_number_parts-in-MemoryNeeded.ensures c.in-MemoryNeeded.is

pub returns-in-DiskNeeded : goal.returns-in-DiskNeeded
returns-in-DiskNeeded c = disk_text _ c.args.phrase c.args.m c.args.n c.two_number_parts-in-DiskNeeded.ensures c.in-DiskNeeded.is

pub returns-in_default : goal.returns-in_default
returns-in_default c = count_text _ c.text.result.now c.args.phrase c.args.m c.args.n c.one_number_parts.ensures c.text.ensures
    c.in_default.not-OtherExitCode c.in_default.not-OtherSignal c.in_default.not-TestsFailed c.in_default.not-MemoryNeeded c.in_default.not-DiskNeeded
