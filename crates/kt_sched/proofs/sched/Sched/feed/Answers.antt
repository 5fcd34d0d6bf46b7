use Rattle.kt_sched.proofs.Common.{sym, ◌∙◌, ap, subst, Next, Answer, SchedState, IsAnswerTo}
use Rattle.kt_sched.specs.declared.next.Next.TheVariants as next
use Rattle.kt_sched.proofs.Located.{runs_stage}
use Rattle.kt_sched.proofs.sched.Sched.feed.Goals as goal

pub record_end-requires-clause-runs : goal.record_end-requires-clause-runs
record_end-requires-clause-runs c =
    let v = c.requires in
    let e = c.in-Wait-Ended.ended in
    let q = sym (ap (λ (b : SchedState). b.asked) c.self.view_is) ∙ c.in-Wait-Ended.is-0 in
    let P : Next → Type 0 = λ x. IsAnswerTo v.2.trace x c.args.answer in
    let Q : Answer → Type 0 = λ x. IsAnswerTo v.2.trace next.Wait x in
    runs_stage v.3 e.position e.role (subst Q c.in-Wait-Ended.is-1 (subst P q v.4))
