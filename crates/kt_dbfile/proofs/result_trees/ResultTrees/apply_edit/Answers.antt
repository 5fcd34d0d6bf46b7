use Rattle.kt_dbfile.proofs.Common.{Enforced, Ok, Some, Trees, View, ap, arith, refl, slice_get, slice_get_read, still_set_up, subst, sym, ◌∙◌, ◌≡◌}
use Rattle.sqlite_rules.specs.Action.{Writes}
use Rattle.sqlite_rules.specs.Edit.{edit_of}
use Rattle.sqlite_schema.specs.declared.schema.Table.{Table}
use Rattle.kt_dbfile.proofs.EditLemmas.{is_set_up, has_reals, fits, accounted, still_stands, stands_again}
use Rattle.kt_dbfile.proofs.result_trees.ResultTrees.apply_edit.Given.{Over}
use Rattle.kt_dbfile.proofs.result_trees.ResultTrees.apply_edit.Goals.{In-Some}
use Rattle.kt_dbfile.proofs.result_trees.ResultTrees.apply_edit.Goals as goal

-- the table is at the index where it was looked up
here : (g : Over) (c : In-Some g) → slice_get c.args.schema.now.tables c.args.edit.table_index ≡ Some c.in-Some.table.now
here g c = ap (λ l. slice_get l c.args.edit.table_index) (sym c.as_slice.ensures) ∙ slice_get_read c.as_slice.result.now _ c.args.edit.table_index _ refl c.in-Some.ensures.lookup.3.0 c.in-Some.ensures.lookup.1

pub write-requires-clause-set_up : goal.write-requires-clause-set_up
write-requires-clause-set_up g c clean =
    let store = c.args.self.now.store in
    let s = c.requires.obeys clean in
    is_set_up (g.S.Store.view store) c.args.schema.now s (g.met.S.Alter.listed store s.unbroken) (g.met.S.Store.ordered store s.unbroken) _ c.requires.indexes

pub write-requires-clause-reals : goal.write-requires-clause-reals
write-requires-clause-reals g c clean =
    let store = c.args.self.now.store in
    let s = c.requires.obeys clean in
    has_reals (g.S.Store.view store) c.args.schema.now s (g.met.S.Alter.listed store s.unbroken) (g.met.S.Store.ordered store s.unbroken)

pub write-requires-clause-fits : goal.write-requires-clause-fits
write-requires-clause-fits g c clean =
    let store = c.args.self.now.store in
    let s = c.requires.obeys clean in
    fits (g.S.Store.view store) c.args.schema.now s (g.met.S.Alter.listed store s.unbroken) (g.met.S.Store.ordered store s.unbroken)

pub are_kept-requires-clause-set_up : goal.are_kept-requires-clause-set_up
are_kept-requires-clause-set_up g c clean =
    let store = c.args.self.now.store in
    let falls = c.write.ensures.quiet.clean in
    let s = c.requires.obeys (omega arith) in
    still_set_up c.args.schema.now _ _ _
    (is_set_up (g.S.Store.view store) c.args.schema.now s (g.met.S.Alter.listed store s.unbroken) (g.met.S.Store.ordered store s.unbroken) _ c.requires.indexes)
    (c.in_ok-write.ensures.advances clean).frame

pub write-requires-clause-listed : goal.write-requires-clause-listed
write-requires-clause-listed g c = here g (goal.at.write-requires-clause-listed g c).In-Some

pub returns-clause-puts : goal.returns-clause-puts
returns-clause-puts g c clean table found =
    let falls = c.are_kept.ensures.quiet.clean in
    let same = c.in_ok-is_kept.ensures.same clean in
    let old = (g.S.Store.view c.args.self.now.store).trees in
    let own = c.in-Some.table.now in
    let one : own ≡ table = let e : Some own ≡ Some table = sym (here g (goal.at.returns-clause-puts g c).In-Some) ∙ found in cc in
    subst (λ (t : Table). Writes c.args.schema.now Enforced old (edit_of old t c.args.edit.removed_rowids.now c.args.edit.rowids c.args.edit.first_column c.args.edit.sources.now) (Ok (g.S.Store.view c.are_kept.new.store).trees)) one
    (subst (λ (t : Trees). Writes c.args.schema.now Enforced old (edit_of old own c.args.edit.removed_rowids.now c.args.edit.rowids c.args.edit.first_column c.args.edit.sources.now) (Ok t)) (sym (ap (λ (v : View). v.trees) same)) (c.in_ok-write.ensures.ok (omega arith)))

pub returns-clause-obeys : goal.returns-clause-obeys
returns-clause-obeys g c clean =
    let store = c.args.self.now.store in
    let falls1 = c.write.ensures.quiet.clean in
    let falls2 = c.are_kept.ensures.quiet.clean in
    let s = c.requires.obeys (omega arith) in
    let old = g.S.Store.view store in
    let mid = g.S.Store.view c.write.new.store in
    let listed = g.met.S.Alter.listed store s.unbroken in
    let ordered = g.met.S.Store.ordered store s.unbroken in
    let advances = rw c.requires.untouched at (c.in_ok-write.ensures.advances (omega arith)) in
    let same = c.in_ok-is_kept.ensures.same clean in
    let kept = rw c.in_ok-ensure_sound.ensures.sound at (c.in_ok-is_kept.ensures.ok clean) in
    stands_again mid _ c.args.schema.now same
    (still_stands old c.args.schema.now s listed ordered mid _ advances (kept (rw c.as_slice-2.ensures (accounted old c.args.schema.now s listed ordered mid _ advances))))
