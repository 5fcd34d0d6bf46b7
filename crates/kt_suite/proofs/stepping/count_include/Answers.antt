use Rattle.std.proofs.Common.{None, rules, ◌≡◌}
use Rattle.kt_suite.proofs.Common.{include_cause}
use Rattle.kt_suite.proofs.OneStep.{enters_refused, enters_too_many, enters_well}
use Rattle.kt_suite.proofs.stepping.count_include.Goals as goal

pub returns-in-Some : goal.returns-in-Some
returns-in-Some c = enters_refused _ c.args.registry _ _ _ (search rules) c.fault_at.ensures

pub returns-then-registry-ge-FILE_LIMIT : goal.returns-then-registry-ge-FILE_LIMIT
returns-then-registry-ge-FILE_LIMIT c =
    let e : None ≡ include_cause c.args.registry.open_kyuafiles c.args.path.now = search rules in
    enters_too_many _ c.args.registry _ _ e (search rules) c.fault_at-then-registry-ge-FILE_LIMIT.ensures

pub returns : goal.returns
returns c =
    let e : None ≡ include_cause c.args.registry.open_kyuafiles c.args.path.now = search rules in
    enters_well _ c.args.registry _ _ e (search rules) (search rules)
