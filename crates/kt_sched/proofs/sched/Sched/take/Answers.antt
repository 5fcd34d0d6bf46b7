use Rattle.kt_sched.proofs.Common.{◌<◌, ℕ, sym, ◌∙◌, ap, subst, SchedState, RepresentsRun, changes_left}
use Rattle.kt_sched.proofs.Begin.{entry_taken, stands_taken, less_taken}
use Rattle.kt_sched.proofs.sched.Sched.take.Goals as goal

pub invariant_of-self : goal.invariant_of-self
invariant_of-self c =
    let v = c.self.invariant in
    (v.0, v.1, v.2, stands_taken v.3 c.take_entry-taken.ensures (ap (λ (b : SchedState). b.asked) c.self.view_is ∙ c.requires.asked))

pub returns-clause-stands : goal.returns-clause-stands
returns-clause-stands c = λ plan n fed h.
    stands_taken (subst (RepresentsRun plan n fed) (sym c.self.view_is) h) c.take_entry-taken.ensures
    (ap (λ (b : SchedState). b.asked) c.self.view_is ∙ c.requires.asked)

pub returns-clause-entry : goal.returns-clause-entry
returns-clause-entry c = λ plan n fed h. entry_taken (subst (RepresentsRun plan n fed) (sym c.self.view_is) h) c.take_entry-taken.ensures

pub returns-clause-less : goal.returns-clause-less
returns-clause-less c =
    let t = c.take_entry-taken in
    subst (λ (k : ℕ). changes_left t.new.cases.items < k) (ap (λ (b : SchedState). changes_left b.cases) c.self.view_is)
    (less_taken c.self.inside.cases.items c.args.position t.new.cases.items t.result t.ensures)
