use Rattle.std.proofs.Common.{◌∙◌, ap, sym}
use Rattle.kt_metadata.proofs.Common.{chars, Need, required_objects}
use Rattle.kt_metadata.specs.Effective.{effective}
use Rattle.kt_metadata.proofs.props.Props.required_objects.Goals as goal

pub returns-in-File : goal.returns-in-File
unfolding chars
returns-in-File c = c.list_value.ensures ∙ ap (λ (need : Need). required_objects need (effective c.args.self.now)) (sym c.in-File.is)

pub returns-in-Program : goal.returns-in-Program
unfolding chars
returns-in-Program c = c.list_value-in-Program.ensures ∙ ap (λ (need : Need). required_objects need (effective c.args.self.now)) (sym c.in-Program.is)
