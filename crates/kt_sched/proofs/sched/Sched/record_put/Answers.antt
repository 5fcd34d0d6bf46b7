use Rattle.kt_sched.proofs.Common.{sym, ◌∙◌, ap, subst, SchedState, RepresentsRun}
use Rattle.kt_sched.proofs.Opened.{put}
use Rattle.kt_sched.proofs.sched.Sched.record_put.Goals as goal

pub invariant_of-self : goal.invariant_of-self
invariant_of-self c =
    let v = c.self.invariant in (v.0, v.1, _, put v.3 c.args.i (ap (λ (b : SchedState). b.asked) c.self.view_is ∙ c.requires) c.args.failed)

pub returns-clause-stands : goal.returns-clause-stands
returns-clause-stands c = λ plan n fed h.
    put (subst (RepresentsRun plan n fed) (sym c.self.view_is) h) c.args.i (ap (λ (b : SchedState). b.asked) c.self.view_is ∙ c.requires) c.args.failed
