use Rattle.kt_sched.proofs.Common.{◌≡◌, ◌≢◌, length, refl, sym, ◌∙◌, ap, subst, slice_get, Some, slice_get_read, slice_get_within, Taken, Case, SchedState, RepresentsRun}
use Rattle.kt_sched.proofs.Choice.{job_is}
use Rattle.kt_sched.proofs.sched.Sched.job.Goals as goal
use Rattle.std.proofs.lemmas.Option.{same_Some}

pub returns : goal.returns
returns c = λ plan n fed h.
    let x = c.index.result.now in
    let cs = c.self.inside.cases.items in
    let i = c.args.position in
    let P : SchedState → Type 0 = λ b. (d : Case) × (slice_get b.cases i ≡ Some d) × (d.stage ≢ Taken) in
    let u = subst P (sym c.self.view_is) c.requires in
    let g : slice_get cs i ≡ Some x = slice_get_read cs (length cs) i x refl (slice_get_within cs i u.0 u.1) c.index.ensures in
    job_is (subst (RepresentsRun plan n fed) (sym c.self.view_is) h) i x g (λ t. u.2 (ap (λ (d : Case). d.stage) (same_Some u.0 x (sym u.1 ∙ g)) ∙ t))
