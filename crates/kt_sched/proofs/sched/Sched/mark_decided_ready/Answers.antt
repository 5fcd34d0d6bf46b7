use Rattle.std.proofs.Common.{rules}
use Rattle.kt_sched.proofs.Common.{sym, ◌∙◌, subst, false, SchedState, RepresentsRun, HasDecidedFlag, HasRecord, HasTurn}
use Rattle.kt_sched.proofs.Located.{start_within, turn_found}
use Rattle.kt_sched.proofs.Opened.{record_now, stands_opened}
use Rattle.kt_sched.proofs.Stages.{not_decided}
use Rattle.kt_sched.proofs.sched.Sched.mark_decided_ready.Goals as goal
use Rattle.std.proofs.lemmas.Option.{same_Some}

pub index-requires : goal.index-requires
index-requires c =
    let t = subst (λ (b : SchedState). HasTurn b c.in-Some.i) (sym c.self.view_is) c.in-Some.ensures in
    search (rules, start_within c.self.invariant.3 c.self.inside.turn c.in-Some.i t.1)

pub returns-in_default-stage-clause-settled : goal.returns-in_default-stage-clause-settled
returns-in_default-stage-clause-settled c = λ e j u.
    let i = c.in-Some.i in
    let t = subst (λ (b : SchedState). HasTurn b i) (sym c.self.view_is) c.in-Some.ensures in
    let d : HasDecidedFlag c.self.inside.cases.items i false = (_, turn_found c.self.invariant.3 i c.index.result.now t.1 c.index.ensures, not_decided c.index.result.now.stage c.in_default-stage.not-Decided) in
    let v = subst (λ (b : SchedState). HasDecidedFlag b.cases i false) c.self.view_is d in
    subst (λ k. HasDecidedFlag c.args.self.now.cases k false) (same_Some i j (sym (c.in-Some.ensures).1 ∙ u.1)) v

pub returns-clause-stands : goal.returns-clause-stands
returns-clause-stands c = λ plan n fed h.
    let t = subst (λ (b : SchedState). HasTurn b c.in-Some.i) (sym c.self.view_is) c.in-Some.ensures in
    stands_opened (subst (RepresentsRun plan n fed) (sym c.self.view_is) h) t c.index.ensures c.in-Decided.is c.in-None.is

pub invariant_of-self : goal.invariant_of-self
invariant_of-self c =
    let v = c.self.invariant in (v.0, v.1, _, returns-clause-stands c v.0 v.1 v.2 (subst (RepresentsRun v.0 v.1 v.2) c.self.view_is v.3))

pub returns-clause-has_record : goal.returns-clause-has_record
returns-clause-has_record c = λ q k e.
    let t = subst (λ (b : SchedState). HasTurn b c.in-Some.i) (sym c.self.view_is) c.in-Some.ensures in
    subst (HasRecord c.self.inside.cases.items) (same_Some c.in-Some.i k e) (record_now c.self.invariant.3 t c.index.ensures c.in-Decided.is)
