use Rattle.std.proofs.Common.{rules, Option, Some, ◌≡◌, ℕ, List, [], subst, sym}
use Rattle.kt_plan.proofs.Common.{finished}
use Rattle.kt_plan.proofs.Chains.{asked_nothing}
use Rattle.kt_plan.proofs.Configurations.{Reads, none_given}
use Rattle.kt_plan.proofs.options.configuring.read_given_config.Goals as goal

pub returns-in-None : goal.returns-in-None
returns-in-None g c = asked_nothing g.W.World.replies _ _ (finished _ [] (none_given c.args.options.now.config c.new.result (search rules) c.new.ensures))

pub returns-in-Some : goal.returns-in-Some
returns-in-Some g c =
    let given : c.args.options.now.config ≡ Some c.in-Some.path = search rules in
    subst (λ (path : Option (List ℕ)). Reads g.W.World.replies c.args.world.now c.read_config.new.world path c.read_config.result) (sym given) c.read_config.ensures
