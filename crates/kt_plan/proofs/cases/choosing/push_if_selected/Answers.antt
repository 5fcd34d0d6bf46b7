use Rattle.std.proofs.Common.{arith}
use Rattle.kt_plan.proofs.Picking.{picked}
use Rattle.kt_plan.proofs.cases.choosing.push_if_selected.Goals as goal

pub returns-in_ok-push-in-Some : goal.returns-in_ok-push-in-Some
returns-in_ok-push-in-Some c = λ filters rest h.
    picked filters c.args.candidate rest c.args.place c.args.cases.now c.push.new.self c.args.places.now c.in-Some.after.now (grind (arith, c.in-Some.ensures.cases)) c.in_ok-push-in-Some.ensures.ok h
