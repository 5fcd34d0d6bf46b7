use Rattle.std.proofs.Common.{true, false, rules, ◌≡◌}
use Rattle.kt_plan.proofs.Common.{err_from_is_err_and}
use Rattle.kt_plan.proofs.Chains.{asked_short}
use Rattle.kt_plan.proofs.LookLaws.{word_asked, word_missing, word_there}
use Rattle.kt_plan.proofs.plan.looking.probe_need.Goals as goal

pub returns-then-not-is_found : goal.returns-then-not-is_found
returns-then-not-is_found g c =
    let missing : c.is_found.result ≡ false = search rules in
    word_missing g.W.World.replies c.args.need c.args.word.now c.args.world.now c.is_found.new.world c.args.host.now c.is_found.result missing c.is_found.ensures

pub returns-in_err-record_found : goal.returns-in_err-record_found
returns-in_err-record_found g c =
    let p = err_from_is_err_and c.from_residual.result c.from_residual.ensures.1 in
    asked_short g.W.World.replies c.args.world.now c.is_found.new.world _ _ c.from_residual.result p.0 p.1
    (word_asked g.W.World.replies c.args.need c.args.word.now c.args.world.now c.is_found.new.world c.is_found.result c.is_found.ensures)

pub returns : goal.returns
returns g c =
    let there : c.is_found.result ≡ true = search rules in
    word_there g.W.World.replies c.args.need c.args.word.now c.args.world.now c.is_found.new.world c.args.host.now c.record_found.new.self c.is_found.result there c.is_found.ensures c.in_ok-record_found.ensures
