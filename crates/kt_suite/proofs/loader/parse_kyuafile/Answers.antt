use Rattle.std.proofs.Common.{Result, Ok, rules, ◌≡◌, List, ℕ}
use Rattle.kt_suite.proofs.Common.{ReadFault}
use Rattle.kt_suite.proofs.Openings.{opens_unread, opens_no_script, opens_script}
use Rattle.kt_suite.proofs.loader.parse_kyuafile.Goals as goal

pub returns-in-Err : goal.returns-in-Err
returns-in-Err g c = opens_unread g.T.Tree.asks _ _ _ _ _ c.in-Err.ensures c.fault_of_read.ensures

pub returns-in-Err-parse : goal.returns-in-Err-parse
returns-in-Err-parse g c =
    let a : ◌≡◌ {A = Result (List ℕ) ReadFault} (Ok c.in-Ok.text) (Ok c.as_slice.result.now) = search rules in
    opens_no_script g.T.Tree.asks _ _ _ c.as_slice.result.now _ _ _ c.in-Ok.ensures a c.in-Err-parse.ensures.refused c.fault_of_parse.ensures

pub returns : goal.returns
returns g c =
    let a : ◌≡◌ {A = Result (List ℕ) ReadFault} (Ok c.in-Ok.text) (Ok c.as_slice.result.now) = search rules in
    opens_script g.T.Tree.asks _ _ _ c.as_slice.result.now _ _ _ c.in-Ok.ensures a c.in-Ok-parse.ensures.accepted c.check_first_statement.ensures
