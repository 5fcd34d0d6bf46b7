use Rattle.kt_atflist.proofs.Blocks.{settled-after, property-after}
use Rattle.kt_atflist.proofs.block.Block.set.Goals as goal

pub invariant_of-self : goal.invariant_of-self
invariant_of-self c = settled-after c.set.result c.self.inside.props c.set.new.self (record { name = c.args.name.now; value = c.args.value.now }) c.self.invariant
    (c.set.ensures.ok c.self.inside.props c.self.invariant) c.set.ensures.err

pub returns-clause-ok : goal.returns-clause-ok
returns-clause-ok c = property-after c.set.result c.self.inside.name c.self.inside.props c.set.new.self c.args.self.now (record { name = c.args.name.now; value = c.args.value.now })
    c.self.view_is c.self.invariant c.requires (c.set.ensures.ok c.self.inside.props c.self.invariant)
