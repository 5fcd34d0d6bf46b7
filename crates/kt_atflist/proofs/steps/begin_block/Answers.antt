use Rattle.std.proofs.Common.{◌≡◌, ◌∙◌, sym, true, false, refl}
use Rattle.kt_atflist.proofs.Common.{is_listed}
use Rattle.kt_atflist.proofs.Blocks.{among-names}
use Rattle.kt_atflist.proofs.steps.begin_block.Goals as goal

pub returns-then-contains : goal.returns-then-contains
returns-then-contains c =
    let t : is_listed c.args.cases c.args.name ≡ true = sym (among-names c.args.name c.args.names c.args.cases c.requires) ∙ sym c.contains.ensures ∙ c.if-contains.true in
    rw t refl

pub returns : goal.returns
returns c =
    let t : is_listed c.args.cases c.args.name ≡ false = sym (among-names c.args.name c.args.names c.args.cases c.requires) ∙ sym c.contains.ensures ∙ c.if-contains.false in
    rw (t, c.new.ensures) refl
