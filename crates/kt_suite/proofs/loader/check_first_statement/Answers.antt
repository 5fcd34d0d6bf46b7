use Rattle.std.proofs.Common.{None, rules, ◌≡◌, ◌∷◌}
use Rattle.kt_suite.proofs.Common.{opening_cause}
use Rattle.kt_suite.proofs.Openings.{well_empty, well_wrong, well_right}
use Rattle.kt_suite.proofs.loader.check_first_statement.Goals as goal

pub returns-in-None : goal.returns-in-None
returns-in-None c = well_empty _ _ _ (search rules) c.fault_at.ensures

pub returns-in-Some-first_statement_cause : goal.returns-in-Some-first_statement_cause
returns-in-Some-first_statement_cause c =
    let e : c.args.stmts ≡ c.in-Some.first.now ∷ c.in-Some._rest.now = search rules in
    well_wrong _ _ _ _ _ _ e c.in-Some-first_statement_cause.ensures c.fault_at-in-Some-first_statement_cause.ensures

pub returns : goal.returns
returns c =
    let e : c.args.stmts ≡ c.in-Some.first.now ∷ c.in-Some._rest.now = search rules in
    let w : None ≡ opening_cause c.in-Some.first.now.action = search rules in
    well_right _ _ _ _ e w
