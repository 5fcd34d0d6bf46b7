use Rattle.std.proofs.lemmas.Result.{IfOk-weaker}
use Rattle.kt_atflist.proofs.ReadListings.{refused_by, ended_by, unreadable_by, too_long_by, read_by}
use Rattle.kt_atflist.proofs.listed_cases.listed_cases.Goals as goal

pub returns-in-Refused : goal.returns-in-Refused
returns-in-Refused c = refused_by _ _ _ c.in-Refused.is c.reason.ensures

pub returns-in-Some : goal.returns-in-Some
returns-in-Some c = ended_by _ _ _ _ c.in-Ended.is c.in-Some.ensures

pub returns-in-Unreadable : goal.returns-in-Unreadable
returns-in-Unreadable c = unreadable_by _ _ _ c.in-Ended.is c.in-None.ensures c.in-Unreadable.is

pub returns-in-TooLong : goal.returns-in-TooLong
returns-in-TooLong c = too_long_by _ _ _ c.in-Ended.is c.in-None.ensures c.in-TooLong.is

pub returns-in-Read : goal.returns-in-Read
returns-in-Read c = IfOk-weaker c.parse_list_bytes.result _ _ (λ found e. read_by _ _ _ _ found c.in-Ended.is c.in-None.ensures c.in-Read.is e) c.parse_list_bytes.ensures
