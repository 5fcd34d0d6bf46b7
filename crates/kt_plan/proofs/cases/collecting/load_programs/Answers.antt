use Rattle.std.proofs.Common.{◌≡◌, ◌∙◌, ap, sym, false, true}
use Rattle.kt_plan.proofs.Common.{name_in, is_empty}
use Rattle.kt_plan.proofs.Loading.{not_there, loaded}
use Rattle.kt_plan.proofs.cases.collecting.load_programs.Goals as goal

pub returns-then-is_empty-clause-loaded : goal.returns-then-is_empty-clause-loaded
returns-then-is_empty-clause-loaded g c =
    let none : is_empty (name_in c.args.kyuafile.now) ≡ true = ap is_empty (sym c.name.ensures) ∙ sym c.is_empty.ensures ∙ c.if-is_empty.true in
    not_there g.T.Tree.asks c.args.kyuafile.now c.args.tree.now c.create_file_fault.result none c.create_file_fault.ensures

pub returns-clause-loaded : goal.returns-clause-loaded
returns-clause-loaded g c =
    let full : is_empty (name_in c.args.kyuafile.now) ≡ false = ap is_empty (sym c.name.ensures) ∙ sym c.is_empty.ensures ∙ c.if-is_empty.false in
    loaded g.T.Tree.asks c.args.kyuafile.now c.args.tree.now c.load.new.tree c.name-2.result.now c.load.result c.name-2.ensures full c.load.ensures.loaded
