use Rattle.kt_sched.proofs.Common.{sym, subst, Next, IsChosen, SchedState, RepresentsRun, IsSettled}
use Rattle.kt_sched.specs.declared.next.Next.TheVariants as next
use Rattle.kt_sched.proofs.Choice.{is_next, only_next, follows, untaken_start, stands_asked}
use Rattle.kt_sched.proofs.sched.Sched.next.Goals as goal

pub returns-clause-next : goal.returns-clause-next
returns-clause-next c = λ plan n fed h.
    is_next (c.mark_decided_ready.ensures.stands plan n fed h) c.choose_step-next.result c.mark_decided_ready.ensures.settled c.choose_step-next.ensures

pub returns-clause-follows : goal.returns-clause-follows
returns-clause-follows c = λ plan n fed h.
    follows (c.mark_decided_ready.ensures.stands plan n fed h) c.choose_step-next.result c.mark_decided_ready.ensures.settled c.choose_step-next.ensures

pub returns-clause-lends : goal.returns-clause-lends
returns-clause-lends c = λ i role e.
    let s = subst IsSettled (sym c.self.view_is) c.mark_decided_ready.ensures.settled in
    let P : Next → Type 0 = λ q. IsChosen c.mark_decided_ready.new.self q in
    let Q : SchedState → Type 0 = λ b. IsChosen b (next.Start i role) in
    untaken_start c.self.invariant.3 i role s (subst Q (sym c.self.view_is) (subst P e c.choose_step-next.ensures))

pub returns-clause-stands : goal.returns-clause-stands
returns-clause-stands c = λ plan n fed h.
    let s = subst IsSettled (sym c.self.view_is) c.mark_decided_ready.ensures.settled in
    let Q : SchedState → Type 0 = λ b. IsChosen b c.choose_step-next.result in
    let x = subst (RepresentsRun plan n fed) (sym c.self.view_is) (c.mark_decided_ready.ensures.stands plan n fed h) in
    stands_asked x c.choose_step-next.result s (subst Q (sym c.self.view_is) c.choose_step-next.ensures)

pub invariant_of-self : goal.invariant_of-self
invariant_of-self c =
    let v = c.self.invariant in
    let s = subst IsSettled (sym c.self.view_is) c.mark_decided_ready.ensures.settled in
    let Q : SchedState → Type 0 = λ b. IsChosen b c.choose_step-next.result in
    (v.0, v.1, v.2, stands_asked v.3 c.choose_step-next.result s (subst Q (sym c.self.view_is) c.choose_step-next.ensures))

pub returns-clause-only : goal.returns-clause-only
returns-clause-only c = λ plan n fed h other y.
    let x = is_next (c.mark_decided_ready.ensures.stands plan n fed h) c.choose_step-next.result c.mark_decided_ready.ensures.settled c.choose_step-next.ensures in
    only_next plan n fed other c.choose_step-next.result h.cases.is_plan y x
