use Rattle.std.proofs.Common.{rules, ◌≡◌, ◌∙◌, ap, map, sym, List, [], ◌∷◌, ◌++◌, Some}
use Rattle.kt_config.proofs.Common.{string_eq, insert_entry, Variable, last_values, suite_in}
use Rattle.kt_config.proofs.Entries.{unwritten, adds-there, adds-new}
use Rattle.kt_config.proofs.suites.Suites.put_variable.Goals as goal

pub returns-in_err-put_variable-clause-err : goal.returns-in_err-put_variable-clause-err
returns-in_err-put_variable-clause-err c =
    let e : map suite_in (c.get_mut.follows.lender c.put_variable.new.self).entries ≡ c.args.self.now
    = ap (λ es. map suite_in es) ((c.get_mut.follows.holds c.put_variable.new.self).0)
    ∙ unwritten c.as_str.result.now c.put_variable.new.self c.self.inside.groups.entries (sym c.in-Some.ensures.value ∙ ap Some (sym c.in_err-put_variable.ensures.err))
    ∙ c.self.view_is in
    search (rules, e)

pub returns-in-Some-clause-ok : goal.returns-in-Some-clause-ok
returns-in-Some-clause-ok c = adds-there c.as_str.result.now c.args.suite c.args.variable c.in-Some.variables.now c.put_variable.new.self
    c.self.inside.groups.entries (c.get_mut.follows.lender c.put_variable.new.self).entries c.args.self.now c.as_str.utf8 c.as_str.ensures.characters
    c.self.view_is (sym c.in-Some.ensures.value) c.in_ok-put_variable.ensures.ok ((c.get_mut.follows.holds c.put_variable.new.self).0)

pub returns-clause-ok : goal.returns-clause-ok
returns-clause-ok c =
    let one = c.in_ok-put_variable-2.ensures.ok ∙ ap (λ (xs : List Variable). last_values (xs ++ c.args.variable ∷ [])) c.new-variables.ensures in
    let entries = c.in_ok-insert.ensures.entries ∙ ap (λ m. insert_entry string_eq m.entries c.into_key.result c.put_variable-2.new.self) c.get_mut.follows.holds-at-none in
    adds-new c.as_str.result.now c.args.suite c.into_key.result c.args.variable c.put_variable-2.new.self
    c.self.inside.groups.entries c.insert.new.self.entries c.args.self.now c.as_str.utf8 c.as_str.ensures.characters
    c.self.view_is (sym c.in_default.ensures.value) c.into_key.ensures one entries
