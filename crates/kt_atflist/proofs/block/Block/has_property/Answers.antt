use Rattle.std.proofs.Common.{◌∙◌, ap, sym, is_some}
use Rattle.kt_atflist.proofs.Common.{has_property, CaseDef}
use Rattle.kt_atflist.proofs.Blocks.{copied, given}
use Rattle.kt_atflist.proofs.block.Block.has_property.Goals as goal

pub returns : goal.returns
returns c =
    c.is_some.ensures ∙ sym (copied c.get.result) ∙ ap is_some (c.get.ensures.value c.self.inside.props c.self.invariant) ∙ given c.args.name.now c.self.inside.props
    ∙ ap (λ (case : CaseDef). has_property case.props c.args.name.now) c.self.view_is
