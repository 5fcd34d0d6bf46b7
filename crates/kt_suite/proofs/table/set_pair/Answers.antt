use Rattle.std.proofs.Common.{Result, IfOk, rules, ◌≡◌, refl, ap, subst}
use Rattle.kt_suite.proofs.Common.{filter, text_of, SuiteCause, ProgramTable, key_named, is_property}
use Rattle.kt_suite.specs.declared.table.KeyKind.TheVariants as key
use Rattle.kt_suite.proofs.Tables.{takes_name, takes_suite, takes_property}
use Rattle.kt_suite.proofs.table.set_pair.Goals as goal

pub returns-in-Name : goal.returns-in-Name
returns-in-Name c before f =
    let e : key.Name ≡ key_named c.args.pair.now.name = search rules in
    let t : c.in_ok-value.value ≡ text_of c.args.pair.now.value = search rules in
    takes_name before c.args.pair.now c.args.found c.in_ok-value.value e t f

pub returns-in-TestSuite : goal.returns-in-TestSuite
returns-in-TestSuite c before f =
    let e : key.TestSuite ≡ key_named c.args.pair.now.name = search rules in
    let t : c.in_ok-value.value ≡ text_of c.args.pair.now.value = search rules in
    takes_suite before c.args.pair.now c.args.found c.in_ok-value.value e t f

pub returns-in-Property : goal.returns-in-Property
returns-in-Property c before f =
    let e : key.Property ≡ key_named c.args.pair.now.name = search rules in
    let t : c.in_ok-value.value ≡ text_of c.args.pair.now.value = search rules in
    subst (λ (table : Result ProgramTable SuiteCause). IfOk c.set_property.result (λ next. next ≡ table))
    (takes_property before c.args.pair.now c.args.found c.in_ok-value.value _ e t f refl) (c.set_property.ensures (filter is_property before) (ap (λ (table : ProgramTable). table.props) f))
