use Rattle.kt_sched.proofs.Common.{◌≡◌, List, subst, Job, turns, no_responses, positions}
use Rattle.kt_sched.proofs.Begin.{new_stands}
use Rattle.kt_sched.proofs.sched.Sched.new.Goals as goal

pub returns-clause-stands : goal.returns-clause-stands
returns-clause-stands c =
    let order = subst (λ (jobs : List Job). c.in_ok-order.order.items ≡ positions (turns jobs)) c.deref.ensures.value c.in_ok-order.ensures in
    new_stands c.requires.plan c.requires.width.positive c.into_vec-jobs.ensures c.in_ok-cases.ensures order

pub invariant_of-result : goal.invariant_of-result
invariant_of-result c = (c.args.plan, c.args.width, no_responses, returns-clause-stands c)
