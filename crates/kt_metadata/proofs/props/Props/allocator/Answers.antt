use Rattle.kt_metadata.proofs.Common.{program_layer}
use Rattle.kt_metadata.proofs.Layers.{once}
use Rattle.kt_metadata.proofs.props.Props.allocator.Goals as goal

pub returns : goal.returns
returns c = once (program_layer c.self.inside.program) c.self.inside.own c.args.self.now c.self.view_is
