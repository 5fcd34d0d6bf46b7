use Rattle.std.proofs.Common.{◌≡◌, ◌∷◌, ◌+◌, drop, rules, arith}
use Rattle.kt_plan.proofs.Common.{common_steps}
use Rattle.kt_plan.proofs.Configurations.{one_refused, one_set}
use Rattle.kt_plan.proofs.options.configuring.set_arguments.Goals as goal

pub loop-word-preserved : goal.loop-word-preserved
loop-word-preserved c =
    let i = c.loop-word.word-index in
    let parts : drop i c.args.words.now ≡ c.word-item.result ∷ drop (i + 1) c.args.words.now = grind (arith, common_steps) in
    one_set c.args.config c.loop-word.config c.set_argument.new.config c.args.words.now (drop i c.args.words.now) (drop (i + 1) c.args.words.now) c.word-item.result c.loop-word.invariant parts (search rules)

pub returns-in-Some : goal.returns-in-Some
returns-in-Some c =
    let i = c.loop-word.word-index in
    let parts : drop i c.args.words.now ≡ c.word-item.result ∷ drop (i + 1) c.args.words.now = grind (arith, common_steps) in
    one_refused c.args.config c.loop-word.config c.args.words.now (drop i c.args.words.now) (drop (i + 1) c.args.words.now) c.word-item.result c.in-Some.stop c.loop-word.invariant parts (search rules)
