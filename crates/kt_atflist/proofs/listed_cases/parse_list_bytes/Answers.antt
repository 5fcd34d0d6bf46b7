use Rattle.kt_atflist.proofs.ReadListings.{cases_read, fault_read}
use Rattle.kt_atflist.proofs.listed_cases.parse_list_bytes.Goals as goal

pub returns-in-Ok : goal.returns-in-Ok
returns-in-Ok c = cases_read c.as_slice.result.now c.args.text.now c.in-Ok.cases c.as_slice.ensures c.in-Ok.ensures.answer

pub returns-in_ok-phrase-in-Err : goal.returns-in_ok-phrase-in-Err
returns-in_ok-phrase-in-Err c = fault_read c.as_slice.result.now c.args.text.now c.in-Err.fault c.in_ok-phrase-in-Err.phrase c.as_slice.ensures c.in-Err.ensures.answer c.in_ok-phrase-in-Err.ensures
