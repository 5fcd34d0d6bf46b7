use Rattle.std.proofs.Common.{◌≡◌, ◌∙◌, ◌∷◌, ap, length, rules, sym}
use Rattle.kt_plan.proofs.Common.{variables_for}
use Rattle.kt_plan.proofs.PlanLaws.{jobs_next, jobs_all, length_from}
use Rattle.kt_plan.proofs.PlansFit.{plan_fits}
use Rattle.kt_plan.proofs.plan.planning.make_plan.Goals as goal

pub loop-candidate-preserved : goal.loop-candidate-preserved
loop-candidate-preserved c =
    let e : c.loop-candidate.candidate-iterator.rest.items ≡ c.in-Some.candidate ∷ c.next.new.self.rest.items = search rules in (
      jobs_next c.args.config.now c.args.host.now c.args.cases c.loop-candidate.position _ _ c.in-Some.candidate c.loop-candidate.plan c.push.new.self c.in_ok-plan_job.field-0 e c.loop-candidate.invariant.0 c.in_ok-plan_job.ensures c.in_ok-push.ensures.ok,
      c.in_ok-shared-2.ensures.variables ∙ ap (variables_for c.args.config.now) (sym c.in_ok-shared-2.ensures.suite),
    )

pub returns-clause-planned : goal.returns-clause-planned
returns-clause-planned c =
    let none : length c.loop-candidate.candidate-iterator.rest.items ≡ 0 = search rules in
    jobs_all c.args.config.now c.args.host.now c.args.cases c.loop-candidate.position c.loop-candidate.candidate-iterator.rest.items c.loop-candidate.plan none c.loop-candidate.invariant.0

pub returns-clause-plan : goal.returns-clause-plan
returns-clause-plan c =
    let none : length c.loop-candidate.candidate-iterator.rest.items ≡ 0 = search rules in
    let all = jobs_all c.args.config.now c.args.host.now c.args.cases c.loop-candidate.position c.loop-candidate.candidate-iterator.rest.items c.loop-candidate.plan none c.loop-candidate.invariant.0 in
    (plan_fits c.args.config.now c.args.host.now c.args.cases c.loop-candidate.plan all, length_from c.args.config.now c.args.host.now 0 c.args.cases c.loop-candidate.plan all)
