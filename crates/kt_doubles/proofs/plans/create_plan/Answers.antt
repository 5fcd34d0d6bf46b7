use Rattle.std.proofs.Common.{length-append, List, [], ◌∷◌, length, sym, ◌∙◌, ap, subst, arith}
use Rattle.kt_doubles.proofs.Common.{Job, IsPlan}
use Rattle.kt_doubles.proofs.PlanSteps.{plan_more}
use Rattle.kt_doubles.proofs.plans.create_plan.Goals as goal

pub loop-letter-preserved : goal.loop-letter-preserved
loop-letter-preserved c =
    let e = c.in_ok-push.ensures.items in
    let v = c.loop-letter.invariant in
    record {
      plan = subst IsPlan (sym e) (plan_more c.loop-letter.jobs.items c.in_ok-create_job.field-0 v.plan (c.in_ok-create_job.ensures.place ∙ sym v.count) c.in_ok-create_job.ensures.fit);
      count = omega (arith, ap (λ (xs : List Job). length xs) e, length-append c.loop-letter.jobs.items (c.in_ok-create_job.field-0 ∷ []), v.count);
    }
